-- Beginnings of one list.
use Rattle.std.proofs.Common.{◌≡◌, ◌<◌, ◌≤◌, List, [], ◌∷◌, ◌++◌, length, length-append, ap, sym, refl, subst, ◌∙◌, arith}
use Rattle.std.proofs.lemmas.Bool.{lt-ltb, le-ltb}
use mathlib.Core.Logic.{dite}
use native.Mathlib.Decide.{dec_lt}
use Rattle.ar_base.specs.Prefixes.{BeginsWith}
use Rattle.ar_base.proofs.Prefixes.{begins_itself}
use Rattle.ar_seats.specs.Prefixes.{longer}

module _ {A : Type 0} where
  begins_short : (front whole : List A) → BeginsWith whole front → length front ≤ length whole
  begins_short front whole begins = omega (arith, ap length begins.1, length-append front begins.0)

  pub longer_is_one : (one other : List A) (P : List A → Type 0) → P one → P other → P (longer one other)
  longer_is_one one other P first second = dite (dec_lt (length one) (length other))
      (λ below. subst P (sym (longer-lt below)) second)
      (λ above. subst P (sym (longer-le (omega arith))) first)
    where
      longer-lt : length one < length other → longer one other ≡ other
      longer-lt below = rw (lt-ltb (length one) (length other) below)

      longer-le : length other ≤ length one → longer one other ≡ one
      longer-le above = rw (le-ltb (length one) (length other) above)

  -- of two beginnings of one list the longer begins with the shorter
  pub begins_shorter : (whole one other : List A) → BeginsWith whole one → BeginsWith whole other → length one ≤ length other → BeginsWith other one
  begins_shorter whole [] other begins too short = (other, refl)
  begins_shorter whole (x ∷ xs) [] begins too short = absurd (omega arith)
  begins_shorter whole (x ∷ xs) (y ∷ ys) begins too short =
      let same : x ∷ (xs ++ begins.0) ≡ y ∷ (ys ++ too.0) = sym begins.1 ∙ too.1 in
      let head : x ≡ y = cc in
      let tail : xs ++ begins.0 ≡ ys ++ too.0 = cc in
      let rest = begins_shorter (xs ++ begins.0) xs ys (begins.0, refl) (too.0, tail) (omega arith) in
      let on : ys ≡ xs ++ rest.0 = rest.1 in
      let whole_is : y ∷ ys ≡ x ∷ (xs ++ rest.0) = cc in
      (rest.0, whole_is)

  -- so the longer begins with both
  pub longer_begins : (whole one other : List A) → BeginsWith whole one → BeginsWith whole other → BeginsWith (longer one other) one × BeginsWith (longer one other) other
  longer_begins whole one other begins too = dite (dec_lt (length one) (length other))
      (λ below. subst (λ zs. BeginsWith zs one × BeginsWith zs other) (sym (longer-lt below)) (begins_shorter whole one other begins too (omega arith), begins_itself other))
      (λ above. subst (λ zs. BeginsWith zs one × BeginsWith zs other) (sym (longer-le (omega arith))) (begins_itself one, begins_shorter whole other one too begins (omega arith)))
    where
      longer-lt : length one < length other → longer one other ≡ other
      longer-lt below = rw (lt-ltb (length one) (length other) below)

      longer-le : length other ≤ length one → longer one other ≡ one
      longer-le above = rw (le-ltb (length one) (length other) above)
