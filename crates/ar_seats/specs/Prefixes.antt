-- Beginnings of one list that only grows.
use Rattle.std.specs.Prelude.{nat_lt, if◌then◌else◌, List, length}

-- the longer of two lists
abbrev pub longer : {A : Type 0} → List A → List A → List A
longer one other = if nat_lt (length one) (length other) then other else one
