-- What the place of a text in a list says.
use Rattle.std.proofs.Common.{◌≡◌, ◌≢◌, ℕ, ◌<◌, ◌↔◌, List, [], ◌∷◌, ◌++◌, length, length-append, get_or, refl, sym, ap, ◌∙◌, arith, Bool, true, false, nat_lt, Option, Some, None}
use Rattle.std.specs.Prelude.{bytes_eq, Contains, IsTrue, is_some}
use Rattle.std.proofs.lemmas.Bool.{ltb-true, lt-ltb}
use Rattle.std.proofs.Math.Seq.{get_or-append_seam}
use Rattle.std.proofs.lemmas.List.Quantifiers.{position-Some, all_pairs_push}
use Rattle.std.proofs.lemmas.List.Sums.{fails_before_first}
use Rattle.std.proofs.lemmas.Slice.Eq.{bytes_eq-Decides}
use Rattle.std.specs.List.{position_or_len}
use Rattle.ar_base.specs.Places.{place_of, HasNoneTwice}
use Rattle.ar_base.proofs.Shown.{cond_none}

pub not-less : (a b : ℕ) → nat_lt a b ≡ false → a < b → ⊥
not-less a b never lt = let less : nat_lt a b ≡ true = lt-ltb a b lt in cc

pub less-not : (a b : ℕ) → (a < b → ⊥) → nat_lt a b ≡ false
less-not a b never = by (nat_lt a b) refl
  where
    by : (t : Bool) → nat_lt a b ≡ t → t ≡ false
    by true e = absurd (never (ltb-true a b e))
    by false e = refl

-- at the place of a text stands the text
pub stands : (texts : List (List ℕ)) (text : List ℕ) (k : ℕ) (d : List ℕ) → place_of texts text ≡ Some k
    → (k < length texts) × (get_or texts k d ≡ text)
stands texts text k d at =
    let p = position-Some (bytes_eq text) texts k d at in
    (p.0, sym ((bytes_eq-Decides text (get_or texts k d)).0 p.1))

-- a text without a place stands nowhere
pub absent : (texts : List (List ℕ)) (text : List ℕ) → place_of texts text ≡ None
    → (k : ℕ) (d : List ℕ) → k < length texts → get_or texts k d ≢ text
absent texts text none k d within e =
    let first = position_or_len (bytes_eq text) texts in
    let past : nat_lt first (length texts) ≡ false = cond_none (nat_lt first (length texts)) first none in
    let before : k < first = omega (arith, not-less first (length texts) past) in
    let no : bytes_eq text (get_or texts k d) ≡ false = fails_before_first (bytes_eq text) texts k d before in
    let yes : bytes_eq text (get_or texts k d) ≡ true = (bytes_eq-Decides text (get_or texts k d)).1 (sym e) in
    cc

pub not-contained : (texts : List (List ℕ)) (text : List ℕ) → place_of texts text ≡ None → ¬ Contains texts text
not-contained texts text none held = absent texts text none held.0 text held.1 held.2

pub contained : (texts : List (List ℕ)) (text : List ℕ) (k : ℕ) → place_of texts text ≡ Some k → Contains texts text
contained texts text k at = let s = stands texts text k text at in (k, s.0, s.1)

-- where no text stands twice, the place of a text is each place where it stands
pub one-place : (texts : List (List ℕ)) (text : List ℕ) (k : ℕ) (d : List ℕ) → HasNoneTwice texts
    → k < length texts → get_or texts k d ≡ text → place_of texts text ≡ Some k
one-place texts text k d once within is = by (place_of texts text) refl
  where
    by : (place : Option ℕ) → place_of texts text ≡ place → place ≡ Some k
    by None e = absurd (absent texts text e k d within is)
    by (Some j) e =
        let s = stands texts text j d e in
        let same : get_or texts j d ≡ get_or texts k d = s.1 ∙ sym is in
        let apart : j < k → ⊥ = λ lt. once j k d lt within same in
        let behind : k < j → ⊥ = λ lt. once k j d lt s.0 (sym same) in
        let j-is : j ≡ k = omega (arith, apart, behind) in
        ap (λ n. Some n) j-is

-- a new text keeps the list without one twice
pub once-push : (texts : List (List ℕ)) (text : List ℕ) → HasNoneTwice texts → place_of texts text ≡ None → HasNoneTwice (texts ++ text ∷ [])
once-push texts text once none =
    all_pairs_push (λ a b. a ≢ b) texts text once (λ k d within. absent texts text none k d within)

-- and stands at its end
pub last-place : (texts : List (List ℕ)) (text : List ℕ) → HasNoneTwice texts → place_of texts text ≡ None
    → place_of (texts ++ text ∷ []) text ≡ Some (length texts)
last-place texts text once none =
    one-place (texts ++ text ∷ []) text (length texts) [] (once-push texts text once none)
    (omega (arith, length-append texts (text ∷ []))) (get_or-append_seam texts text [] [])

-- a text has a place exactly where it is in the list
pub has-place : (texts : List (List ℕ)) (text : List ℕ) (b : Bool) → b ≡ is_some (place_of texts text) → IsTrue b ↔ Contains texts text
has-place texts text b is = by (place_of texts text) refl
  where
    by : (place : Option ℕ) → place_of texts text ≡ place → IsTrue b ↔ Contains texts text
    by (Some k) at =
        let yes : b ≡ true = is ∙ ap (λ p. is_some p) at in
        (λ t. contained texts text k at, λ h. yes)
    by None at =
        let no : b ≡ false = is ∙ ap (λ p. is_some p) at in
        (λ t. let yes : b ≡ true = t in cc, λ h. absurd (not-contained texts text at h))
