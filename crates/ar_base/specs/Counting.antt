-- What a test adds to a count.
use Rattle.std.specs.Prelude.{ℕ, Bool, if◌then◌else◌}

-- 1 where it passes, 0 where it does not
abbrev pub one_if : Bool → ℕ
one_if passes = if passes then 1 else 0
