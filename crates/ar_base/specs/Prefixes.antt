-- A list that begins with another.
use Rattle.std.specs.Prelude.{◌≡◌, List, ◌++◌}

-- the whole begins with the front
abbrev pub BeginsWith : {A : Type 0} → List A → List A → Type 0
BeginsWith {A} whole front = (rest : List A) × (whole ≡ front ++ rest)
