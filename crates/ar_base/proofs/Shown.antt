-- What an answer shows of the steps that gave it.
use Rattle.std.proofs.Common.{◌≡◌, Bool, true, false, cond, List, [], ◌∷◌, Option, Some, None, Result, Ok, Err, refl, sym, ap, ◌∙◌}
use Rattle.std.specs.Prelude.{IfOk, IsNone, find, is_some, option_map}
use Rattle.std.specs.Option.{ok_or, option_or}
use Rattle.std.specs.Result.{result_ok}
use Rattle.std.proofs.lemmas.Option.{same_Some}
use Rattle.ar_base.specs.Chaining.{◌>>=◌}

-- ---- calls that can fail

-- two names of one value
pub ok_is : {A E : Type 0} (x y : A) → ◌≡◌ {A = Result A E} (Ok x) (Ok y) → x ≡ y
ok_is x y e = cc

-- the step before one that did not fail did not fail
pub bind_ok : {A B E : Type 0} (r : Result A E) (f : A → Result B E) (y : B) → (r >>= f) ≡ Ok y → (x : A) × (r ≡ Ok x) × (f x ≡ Ok y)
bind_ok (Ok x) f y e = (x, refl, e)
bind_ok (Err fault) f y e = absurd cc

-- what had to be there, and was
pub needed : {A E : Type 0} (o : Option A) (fault : E) (x : A) → ok_or o fault ≡ Ok x → o ≡ Some x
needed None fault x e = absurd cc
needed (Some y) fault x e = cc

-- where each value of the first step leads to one that has the property, so does the chain
pub if-chained : {A B E : Type 0} (r : Result A E) (f : A → Result B E) (P : B → Type 0) → ((x : A) → r ≡ Ok x → IfOk (f x) P) → IfOk (r >>= f) P
if-chained (Ok x) f P h = h x refl
if-chained (Err fault) f P h = tt

-- a value that is left when the fault is forgotten
pub gave : {A E : Type 0} (r : Result A E) (y : A) → result_ok r ≡ Some y → r ≡ Ok y
gave (Ok x) y e = ap Ok (same_Some x y e)
gave (Err fault) y e = absurd cc

-- ---- values that may be absent

-- the value that is there
pub some_of : {A : Type 0} (o : Option A) → is_some o ≡ true → (x : A) × (o ≡ Some x)
some_of None e = absurd cc
some_of (Some x) e = (x, refl)

-- no value is there
pub none_of : {A : Type 0} (o : Option A) → is_some o ≡ false → o ≡ None
none_of None e = refl
none_of (Some x) e = absurd cc

pub none_from : {A : Type 0} (o : Option A) → is_some o ≡ false → IsNone o
none_from None e = refl
none_from (Some x) e = absurd cc

-- the value that was mapped
pub mapped : {A B : Type 0} (f : A → B) (o : Option A) (y : B) → option_map f o ≡ Some y → (x : A) × (o ≡ Some x) × (f x ≡ y)
mapped f (Some x) y e = (x, refl, same_Some (f x) y e)
mapped f None y e = absurd cc

-- a test that chose nothing did not hold
pub cond_none : {A : Type 0} (b : Bool) (x : A) → cond b (Some x) None ≡ None → b ≡ false
cond_none true x e = absurd cc
cond_none false x e = refl

-- nothing in place of what is absent changes nothing
pub or_none : {A : Type 0} (o : Option A) → option_or o None ≡ o
or_none None = refl
or_none (Some x) = refl

-- ---- searches

-- the first element that passes the test does
pub find-true : {A : Type 0} (p : A → Bool) (xs : List A) (x : A) → find p xs ≡ Some x → p x ≡ true
find-true p [] x h = absurd cc
find-true p (y ∷ ys) x h =
    elim (p y) as (λ t. p y ≡ t → cond t (Some y) (find p ys) ≡ Some x → p x ≡ true) [
      | true ↦ λ e h. ap p (sym (same_Some y x h)) ∙ e
      | false ↦ λ e h. find-true p ys x h
    ] refl h
