-- Where a value stands among the values that a tally keeps, and what its marks tell.
use Rattle.std.proofs.Common.{◌≡◌, ◌≢◌, ℕ, suc, ◌+◌, ◌<◌, ◌≤◌, List, [], ◌∷◌, map, length, get_or, refl, sym, ap, ◌∙◌, ◌⊎◌, ⊎_elim, arith, Bool, true, false, cond, eqb, ltb, not, ◌&&◌, ◌||◌, Some, None}
use Rattle.std.specs.Prelude.{All, AllPairs, position}
use Rattle.std.specs.List.{AllByRecursion, filter, list_any, position_or_len}
use Rattle.std.proofs.lemmas.Bool.{cases_order, eq-eqb, ne_eqb, le-ltb, ltb-false, and_right}
use Rattle.std.proofs.lemmas.List.{get_or-map, length-map}
use Rattle.std.proofs.lemmas.List.Elements.{All-from_recursion, All-map}
use Rattle.std.proofs.lemmas.List.Quantifiers.{position-Some}
use Rattle.vote_quorum.specs.declared.value.Value.{Value}
use Rattle.vote_quorum.specs.declared.marks.Candidate.{Candidate}
use Rattle.vote_quorum.specs.declared.marks.Mark.{Mark}
use Rattle.vote_quorum.specs.Ballots.{Ballot, is_same, has_ballot, log_count}
use Rattle.vote_quorum.specs.Marks.{values_of, value_at, ballots_of}
use Rattle.vote_quorum.proofs.Counting.{distinct_count-le}
use Rattle.vote_quorum.proofs.Adding.{same_value, is_same-from, other_value}
use Rattle.ar_base.proofs.Shown.{cond_none}

-- the value that stands past the last place
abbrev pub nobody : Value
nobody = record { base = []; root = [] }

-- the value at a place is its candidate's
pub value_at-candidate : (cs : List Candidate) (place : ℕ) (d : Candidate) → place < length cs → value_at (values_of cs) place ≡ (get_or cs place d).value
value_at-candidate cs place d h = get_or-map (λ c. c.value) cs place d nobody h

-- the place that a value is found at
pub found_at : (v : Value) (cs : List Candidate) (place : ℕ) → position (λ c. is_same c.value v) cs ≡ Some place → (place < length cs) × (value_at (values_of cs) place ≡ v)
found_at v cs place h =
    let at = position-Some (λ c. is_same c.value v) cs place (record { value = nobody; logs = 0 }) h in
    (at.0, value_at-candidate cs place (record { value = nobody; logs = 0 }) at.0 ∙ same_value (get_or cs place (record { value = nobody; logs = 0 })).value v at.1)

all_fail : {X : Type 0} (p : X → Bool) (xs : List X) → ltb (position_or_len p xs) (length xs) ≡ false → AllByRecursion (λ x. p x ≡ false) xs
all_fail p [] h = tt
all_fail p (x ∷ xs) h =
    elim (p x) as (λ t. p x ≡ t → ltb (cond (not t) (1 + position_or_len p xs) 0) (suc (length xs)) ≡ false → (p x ≡ false) × AllByRecursion (λ x. p x ≡ false) xs) [
      | true ↦ λ _ h. absurd (let none : suc (length xs) ≤ 0 = ltb-false 0 (suc (length xs)) h in omega arith)
      | false ↦ λ e h.
          let past : suc (length xs) ≤ 1 + position_or_len p xs = ltb-false (1 + position_or_len p xs) (suc (length xs)) h in
          (e, all_fail p xs (le-ltb (position_or_len p xs) (length xs) (omega arith)))
    ] refl h

-- a value that is not found is none of those kept
pub not_found : (v : Value) (cs : List Candidate) → position (λ c. is_same c.value v) cs ≡ None → All (λ w. w ≢ v) (values_of cs)
not_found v cs h =
    let past : ltb (position_or_len (λ c. is_same c.value v) cs) (length cs) ≡ false = cond_none (ltb (position_or_len (λ c. is_same c.value v) cs) (length cs)) (position_or_len (λ c. is_same c.value v) cs) h in
    All-map (λ w. w ≢ v) (λ c. c.value) cs (All-from_recursion (λ c. c.value ≢ v) cs (apart cs (all_fail (λ c. is_same c.value v) cs past))) where
      apart : (cs : List Candidate) → AllByRecursion (λ c. is_same c.value v ≡ false) cs → AllByRecursion (λ c. c.value ≢ v) cs
      apart [] all = tt
      apart (c ∷ cs) all = ((λ e. absurd (let same : is_same c.value v ≡ true = is_same-from c.value v e in let other : is_same c.value v ≡ false = all.0 in cc)), apart cs all.1)

-- values that stand apart are the same at the same place alone
pub same_place : (vs : List Value) (i j : ℕ) → AllPairs (λ v w. v ≢ w) vs → i < length vs → j < length vs → eqb i j ≡ is_same (value_at vs i) (value_at vs j)
same_place vs i j apart in_i in_j =
    ⊎_elim (λ (at : i ≡ j). eq-eqb i j at ∙ sym (is_same-from (value_at vs i) (value_at vs j) (ap (value_at vs) at)))
    (λ (off : (i < j) ⊎ (j < i)).
    ⊎_elim
    (λ (before : i < j). ne_eqb i j (λ e. omega arith) ∙ sym (other_value (value_at vs i) (value_at vs j) (apart i j nobody before in_j)))
    (λ (behind : j < i). ne_eqb i j (λ e. omega arith) ∙ sym (other_value (value_at vs i) (value_at vs j) (λ e. apart j i nobody behind in_i (sym e))))
    off)
    (cases_order i j)

-- the marks tell which ballots are there
pub marked : (vs : List Value) (ms : List Mark) (l place : ℕ) → AllPairs (λ v w. v ≢ w) vs → AllByRecursion (λ m. m.candidate < length vs) ms → place < length vs → list_any (λ m. eqb m.log l && eqb m.candidate place) ms ≡ has_ballot (ballots_of vs ms) (l, value_at vs place)
marked vs [] l place apart placed here = refl
marked vs (m ∷ ms) l place apart placed here =
    ap (λ t. (eqb m.log l && t) || list_any (λ m. eqb m.log l && eqb m.candidate place) ms) (same_place vs m.candidate place apart placed.0 here)
    ∙ ap (λ t. (eqb m.log l && is_same (value_at vs m.candidate) (value_at vs place)) || t) (marked vs ms l place apart placed.1 here)

-- no ballot is for a value that is not kept
pub nobody_for : (vs : List Value) (ms : List Mark) (v : Value) → All (λ w. w ≢ v) vs → AllByRecursion (λ m. m.candidate < length vs) ms → list_any (λ b. is_same b.1 v) (ballots_of vs ms) ≡ false
nobody_for vs [] v none placed = refl
nobody_for vs (m ∷ ms) v none placed =
    ap (λ t. t || list_any (λ b. is_same b.1 v) (ballots_of vs ms)) (other_value (value_at vs m.candidate) v (none m.candidate nobody placed.0))
    ∙ nobody_for vs ms v none placed.1

pub has_ballot-none : (bs : List Ballot) (l : ℕ) (v : Value) → list_any (λ b. is_same b.1 v) bs ≡ false → has_ballot bs (l, v) ≡ false
has_ballot-none [] l v none = refl
has_ballot-none (b ∷ bs) l v none =
    elim (is_same b.1 v) as (λ t. (t || list_any (λ b. is_same b.1 v) bs) ≡ false → ((eqb b.0 l && t) || has_ballot bs (l, v)) ≡ false) [
      | true ↦ λ h. absurd (cc)
      | false ↦ λ h. ap (λ t. t || has_ballot bs (l, v)) (and_right (eqb b.0 l) false refl) ∙ has_ballot-none bs l v h
    ] none

-- no value has more logs than there are ballots
pub log_count-le : (bs : List Ballot) (v : Value) → log_count bs v ≤ length bs
log_count-le bs v = omega (arith, distinct_count-le (map (λ b. b.0) (filter (λ b. is_same b.1 v) bs)), length-map (filter (λ b. is_same b.1 v) bs) (λ b. b.0), kept bs) where
  kept : (bs : List Ballot) → length (filter (λ b. is_same b.1 v) bs) ≤ length bs
  kept [] = omega arith
  kept (b ∷ bs) = elim (is_same b.1 v) as (λ t. length (cond t (b ∷ filter (λ b. is_same b.1 v) bs) (filter (λ b. is_same b.1 v) bs)) ≤ suc (length bs)) [ true ↦ omega (arith, kept bs) | false ↦ omega (arith, kept bs) ]
