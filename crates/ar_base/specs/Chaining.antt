-- One reading behind another: the second begins with what the first gives, and the first that fails is
-- the fault of both. Grammars of bytes and of lines are written with it.
use Rattle.std.specs.Prelude.{Bool, if◌then◌else◌, Result, Ok, Err}

-- the second step from the value of the first, or the fault of the first
infixl 10 ◌>>=◌
abbrev pub ◌>>=◌ : {A B E : Type 0} → Result A E → (A → Result B E) → Result B E
(Ok value) >>= next = next value
(Err fault) >>= next = Err fault

-- what has to hold, or the fault where it does not
abbrev pub need : {E : Type 0} → Bool → E → Result (Unit {0}) E
need holds fault = if holds then Ok tt else Err fault
