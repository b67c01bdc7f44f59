-- How a count of logs changes with one more ballot, and what a quorum is.
use Rattle.std.proofs.Common.{◌≡◌, ◌≢◌, ℕ, ◌+◌, ◌<◌, ◌≤◌, List, [], ◌∷◌, ◌++◌, map, refl, sym, ap, ◌∙◌, arith, Bool, true, false, cond, eqb, leb, not, ◌&&◌, ◌||◌, Option, Some, None, Ok, Err}
use Rattle.std.specs.Prelude.{Contains, is_some}
use Rattle.std.specs.List.{filter, find, list_any}
use Rattle.std.specs.Option.{option_map}
use Rattle.std.specs.Str.{bytes_eq}
use Rattle.std.proofs.lemmas.Bool.{and_parts, and_from, eqb-true, eq-eqb, leb-true, leb-false, false_from_ne_true, both_ways}
use Rattle.std.proofs.lemmas.Slice.Eq.{bytes_eq-Decides}
use Rattle.std.proofs.lemmas.List.Folds.{list_any_at}
use Rattle.std.proofs.lemmas.List.{append-nil}
use Rattle.std.proofs.lemmas.Map.Views.{Contains-from_any}
use Rattle.std.specs.declared.alloc.AllocError.{AllocError}
use Rattle.vote_quorum.specs.declared.added.Added.TheVariants.{New, Again}
use Rattle.vote_quorum.specs.declared.value.Value.{Value}
use Rattle.vote_quorum.specs.Numbers.{distinct_count}
use Rattle.vote_quorum.specs.Ballots.{Ballot, is_same, has_ballot, log_count, quorum_of, Adds}
use Rattle.vote_quorum.proofs.Counting.{among, distinct_count-push, distinct_count-nil}
use Rattle.ar_base.proofs.Shown.{find-true}

-- equal values, and the test of them
pub same_value : (v w : Value) → is_same v w ≡ true → v ≡ w
same_value v w h =
    let parts = and_parts (bytes_eq v.base w.base) (bytes_eq v.root w.root) h in
    let bases : v.base ≡ w.base = (bytes_eq-Decides v.base w.base).0 parts.0 in
    let roots : v.root ≡ w.root = (bytes_eq-Decides v.root w.root).0 parts.1 in
    λ i. record { base = bases i; root = roots i }

pub same_itself : (v : Value) → is_same v v ≡ true
same_itself v = and_from _ _ ((bytes_eq-Decides v.base v.base).1 refl) ((bytes_eq-Decides v.root v.root).1 refl)

pub is_same-from : (v w : Value) → v ≡ w → is_same v w ≡ true
is_same-from v w e = ap (λ x. is_same v x) (sym e) ∙ same_itself v

pub other_value : (v w : Value) → v ≢ w → is_same v w ≡ false
other_value v w apart = false_from_ne_true _ (λ h. apart (same_value v w h))

-- a ballot is found where it stands
pub has_ballot-from : (ballots : List Ballot) (ballot : Ballot) → Contains ballots ballot → has_ballot ballots ballot ≡ true
has_ballot-from ballots ballot there =
    list_any_at (λ b. eqb b.0 ballot.0 && is_same b.1 ballot.1) ballots there.0 ballot there.1
    (ap (λ b. eqb b.0 ballot.0 && is_same b.1 ballot.1) there.2 ∙ and_from _ _ (eq-eqb ballot.0 ballot.0 refl) (same_itself ballot.1))

pub Contains-from_test : (ballots : List Ballot) (ballot : Ballot) → has_ballot ballots ballot ≡ true → Contains ballots ballot
Contains-from_test ballots ballot h =
    Contains-from_any {eq = λ q b. eqb b.0 q.0 && is_same b.1 q.1} (λ x y e.
    let parts = and_parts (eqb y.0 x.0) (is_same y.1 x.1) e in
    let logs : x.0 ≡ y.0 = sym (eqb-true y.0 x.0 parts.0) in
    let values : x.1 ≡ y.1 = sym (same_value y.1 x.1 parts.1) in
    λ i. (logs i, values i)) ballot ballots h

-- the logs for a value have this one exactly where the ballot is there
pub among-logs_for : (bs : List Ballot) (l : ℕ) (v : Value) → among l (map (λ b. b.0) (filter (λ b. is_same b.1 v) bs)) ≡ has_ballot bs (l, v)
among-logs_for [] l v = refl
among-logs_for (b ∷ bs) l v =
    elim (is_same b.1 v) as (λ t. among l (map (λ b. b.0) (cond t (b ∷ filter (λ b. is_same b.1 v) bs) (filter (λ b. is_same b.1 v) bs))) ≡ ((eqb b.0 l && t) || has_ballot bs (l, v))) [
      | true ↦ elim (eqb b.0 l) as (λ s. (s || among l (map (λ b. b.0) (filter (λ b. is_same b.1 v) bs))) ≡ ((s && true) || has_ballot bs (l, v))) [ true ↦ refl | false ↦ among-logs_for bs l v ]
      | false ↦ elim (eqb b.0 l) as (λ s. among l (map (λ b. b.0) (filter (λ b. is_same b.1 v) bs)) ≡ ((s && false) || has_ballot bs (l, v))) [ true ↦ among-logs_for bs l v | false ↦ among-logs_for bs l v ]
    ]

-- the logs for a value, with one more ballot
logs-push : (bs : List Ballot) (b : Ballot) (v : Value) → map (λ b. b.0) (filter (λ b. is_same b.1 v) (bs ++ b ∷ [])) ≡ map (λ b. b.0) (filter (λ b. is_same b.1 v) bs) ++ cond (is_same b.1 v) (b.0 ∷ []) []
logs-push [] b v = elim (is_same b.1 v) as (λ t. map (λ b. b.0) (cond t (b ∷ []) []) ≡ cond t (b.0 ∷ []) []) [ true ↦ refl | false ↦ refl ]
logs-push (c ∷ bs) b v =
    elim (is_same c.1 v) as (λ t. map (λ b. b.0) (cond t (c ∷ filter (λ b. is_same b.1 v) (bs ++ b ∷ [])) (filter (λ b. is_same b.1 v) (bs ++ b ∷ []))) ≡ map (λ b. b.0) (cond t (c ∷ filter (λ b. is_same b.1 v) bs) (filter (λ b. is_same b.1 v) bs)) ++ cond (is_same b.1 v) (b.0 ∷ []) []) [
      | true ↦ ap (λ xs. c.0 ∷ xs) (logs-push bs b v)
      | false ↦ logs-push bs b v
    ]

-- a count, with one more ballot
pub log_count-push : (bs : List Ballot) (l : ℕ) (w v : Value) → log_count (bs ++ (l, w) ∷ []) v ≡ cond (is_same w v && not (has_ballot bs (l, v))) (log_count bs v + 1) (log_count bs v)
log_count-push bs l w v =
    ap distinct_count (logs-push bs (l, w) v)
    ∙ elim (is_same w v) as (λ t. distinct_count (map (λ b. b.0) (filter (λ b. is_same b.1 v) bs) ++ cond t (l ∷ []) []) ≡ cond (t && not (has_ballot bs (l, v))) (log_count bs v + 1) (log_count bs v)) [
      | true ↦
          distinct_count-push (map (λ b. b.0) (filter (λ b. is_same b.1 v) bs)) l
          ∙ ap (λ t. cond t (log_count bs v) (log_count bs v + 1)) (among-logs_for bs l v)
          ∙ elim (has_ballot bs (l, v)) as (λ t. cond t (log_count bs v) (log_count bs v + 1) ≡ cond (not t) (log_count bs v + 1) (log_count bs v)) [ true ↦ refl | false ↦ refl ]
      | false ↦ ap distinct_count (append-nil (map (λ b. b.0) (filter (λ b. is_same b.1 v) bs)))
    ]

-- a new ballot for the value
pub log_count-new : (bs : List Ballot) (l : ℕ) (v : Value) → has_ballot bs (l, v) ≡ false → log_count (bs ++ (l, v) ∷ []) v ≡ log_count bs v + 1
log_count-new bs l v new =
    log_count-push bs l v v ∙ ap (λ t. cond t (log_count bs v + 1) (log_count bs v)) (and_from _ _ (same_itself v) (ap not new))

-- a ballot for another value
pub log_count-other : (bs : List Ballot) (l : ℕ) (w v : Value) → w ≢ v → log_count (bs ++ (l, w) ∷ []) v ≡ log_count bs v
log_count-other bs l w v apart =
    log_count-push bs l w v ∙ ap (λ t. cond (t && not (has_ballot bs (l, v))) (log_count bs v + 1) (log_count bs v)) (other_value w v apart)

-- no ballot for the value
pub log_count-none : (bs : List Ballot) (v : Value) → list_any (λ b. is_same b.1 v) bs ≡ false → log_count bs v ≡ 0
log_count-none bs v none =
    ap (λ xs. distinct_count (map (λ b. b.0) xs)) (nothing bs none) ∙ distinct_count-nil where
      nothing : (bs : List Ballot) → list_any (λ b. is_same b.1 v) bs ≡ false → filter (λ b. is_same b.1 v) bs ≡ []
      nothing [] h = refl
      nothing (b ∷ bs) h =
          elim (is_same b.1 v) as (λ t. (t || list_any (λ b. is_same b.1 v) bs) ≡ false → cond t (b ∷ filter (λ b. is_same b.1 v) bs) (filter (λ b. is_same b.1 v) bs) ≡ []) [
            | true ↦ λ h. absurd (cc)
            | false ↦ λ h. nothing bs h
          ] h

-- what the first element that passes tells
pub is_some-find : {X : Type 0} (p : X → Bool) (xs : List X) → is_some (find p xs) ≡ list_any p xs
is_some-find p [] = refl
is_some-find p (x ∷ xs) = elim (p x) as (λ t. is_some (cond t (Some x) (find p xs)) ≡ (t || list_any p xs)) [ true ↦ refl | false ↦ is_some-find p xs ]

-- a wider test passes too
pub list_any-wider : {X : Type 0} (p r : X → Bool) → ((x : X) → p x ≡ true → r x ≡ true) → (xs : List X) → list_any p xs ≡ true → list_any r xs ≡ true
list_any-wider p r wider [] h = absurd (cc)
list_any-wider p r wider (x ∷ xs) h =
    elim (p x) as (λ t. p x ≡ t → (t || list_any p xs) ≡ true → (r x || list_any r xs) ≡ true) [
      | true ↦ λ e _. ap (λ t. t || list_any r xs) (wider x e)
      | false ↦ λ _ h. elim (r x) as (λ t. (t || list_any r xs) ≡ true) [ true ↦ refl | false ↦ list_any-wider p r wider xs h ]
    ] refl h

-- the value with a quorum has its logs
pub quorum-found : (bs : List Ballot) (q : ℕ) (v : Value) → quorum_of bs q ≡ Some v → q ≤ log_count bs v
quorum-found bs q v h =
    elim (find (λ b. leb q (log_count bs b.1)) bs) as (λ o. find (λ b. leb q (log_count bs b.1)) bs ≡ o → option_map (λ b. b.1) o ≡ Some v → q ≤ log_count bs v) [
      | None ↦ λ _ h. absurd (cc)
      | Some b ↦ λ e h.
          let same : b.1 ≡ v = cc in
          let enough : leb q (log_count bs b.1) ≡ true = find-true (λ b. leb q (log_count bs b.1)) bs b e in
          leb-true q (log_count bs v) (ap (λ w. leb q (log_count bs w)) (sym same) ∙ enough)
    ] refl h

-- where there is none, no value has
pub quorum-none : (bs : List Ballot) (q : ℕ) → 0 < q → quorum_of bs q ≡ None → (v : Value) → log_count bs v < q
quorum-none bs q some h v =
    let none : list_any (λ b. leb q (log_count bs b.1)) bs ≡ false =
    sym (is_some-find (λ b. leb q (log_count bs b.1)) bs) ∙ no_value (find (λ b. leb q (log_count bs b.1)) bs) h in
    elim (leb q (log_count bs v)) as (λ t. leb q (log_count bs v) ≡ t → log_count bs v < q) [
      | true ↦ λ e. elim (list_any (λ b. is_same b.1 v) bs) as (λ t. list_any (λ b. is_same b.1 v) bs ≡ t → log_count bs v < q) [
        | true ↦ λ there. absurd (both_ways (list_any (λ b. leb q (log_count bs b.1)) bs) none
            (list_any-wider (λ b. is_same b.1 v) (λ b. leb q (log_count bs b.1)) (λ b s. ap (λ w. leb q (log_count bs w)) (same_value b.1 v s) ∙ e) bs there))
        | false ↦ λ nobody. omega (arith, log_count-none bs v nobody)
      ] refl
      | false ↦ λ e. leb-false q (log_count bs v) e
    ] refl where
      no_value : (o : Option Ballot) → option_map (λ b. b.1) o ≡ None → is_some o ≡ false
      no_value None h = refl
      no_value (Some b) h = absurd (cc)

-- an addition of a ballot that is there
pub adds_again : (bs : List Ballot) (b : Ballot) → has_ballot bs b ≡ true → Adds b (Ok Again) bs bs
adds_again bs b there = record {
  again = ((λ _. Contains-from_test bs b there), (λ _. refl));
  appended = λ h. absurd (cc);
  ballots = ap (λ t. cond t bs (bs ++ b ∷ [])) (sym there);
  err = tt;
}

absent : (bs : List Ballot) (b : Ballot) → has_ballot bs b ≡ false → Contains bs b → ⊥
absent bs b new there = both_ways (has_ballot bs b) new (has_ballot-from bs b there)

-- of a new one
pub adds_new : (bs after : List Ballot) (b : Ballot) → has_ballot bs b ≡ false → after ≡ bs ++ b ∷ [] → Adds b (Ok New) bs after
adds_new bs after b new is = record {
  again = ((λ h. absurd (cc)), (λ there. absurd (absent bs b new there)));
  appended = λ _. is;
  ballots = is ∙ ap (λ t. cond t bs (bs ++ b ∷ [])) (sym new);
  err = tt;
}

-- of a new one for which there is no memory
pub adds_err : (bs after : List Ballot) (b : Ballot) (e : AllocError) → has_ballot bs b ≡ false → after ≡ bs → Adds b (Err e) bs after
adds_err bs after b e new is = record {
  again = ((λ h. absurd (cc)), (λ there. absurd (absent bs b new there)));
  appended = λ h. absurd (cc);
  ballots = tt;
  err = is;
}
