-- Answers of calls that take memory only for a value.
use Rattle.std.proofs.Common.{◌≡◌, Result, Ok, Err, inl, inr, ap, refl}
use Rattle.std.specs.Result.{result_and}
use Rattle.ar_base.specs.Gives.{GivesOrWants, GivesUnless, with_error}
use Rattle.ar_base.proofs.Shown.{ok_is}

pub refused : {T V E : Type 0} (memory : E) (view : T → V) (result : Result T E) (expected : Result V E) (error : E) → GivesOrWants memory view result expected → expected ≡ Err error → result ≡ Err error
refused memory view (Ok value) (Ok v) error h e = absurd cc
refused memory view (Ok value) (Err x) error h e = absurd cc
refused memory view (Err x) (Ok v) error h e = absurd cc
refused memory view (Err x) (Err y) error (inl wants) e = absurd cc
refused memory view (Err x) (Err y) error (inr is) e = cc

pub given : {T V E : Type 0} (memory : E) (view : T → V) (result : Result T E) (expected : Result V E) → GivesOrWants memory view result expected → GivesUnless memory view result expected
given memory view (Ok value) expected h = h
given memory view (Err x) expected (inl wants) = inl wants.0
given memory view (Err x) expected (inr is) = inr is

-- a value that stands behind an error's other name
pub no-error : {A E F : Type 0} (f : E → F) (r : Result A E) (x : A) → with_error f r ≡ Ok x → r ≡ Ok x
no-error f (Ok y) x e = ap Ok (ok_is y x e)
no-error f (Err fault) x e = absurd cc

-- of two answers, one behind the other: where the second is given, the first was good
pub order-first : {A E : Type 0} (one : Result (Unit {0}) E) (other : Result A E) (x : A) → result_and one other ≡ Ok x → one ≡ Ok tt
order-first (Ok u) other x is = refl
order-first (Err fault) other x is = absurd cc

-- and that is what the second gives
pub order-then : {A E : Type 0} (one : Result (Unit {0}) E) (other : Result A E) (x : A) → result_and one other ≡ Ok x → other ≡ Ok x
order-then (Ok u) other x is = is
order-then (Err fault) other x is = absurd cc
