-- What is kept of a tally stays true with one more ballot.
use Rattle.std.proofs.Common.{◌≡◌, ◌≢◌, ℕ, ◌+◌, ◌<◌, List, [], ◌∷◌, ◌++◌, length, get_or, set, refl, sym, ap, ◌∙◌, subst, ◌⊎◌, ⊎_elim, arith, Bool, true, false, cond, Option, Some, None}
use Rattle.std.specs.Prelude.{All, AllPairs, is_some}
use Rattle.std.specs.List.{AllByRecursion, find}
use Rattle.std.specs.Option.{option_map, option_or}
use Rattle.std.proofs.lemmas.Bool.{cases_eq, cases_order, both_ways}
use Rattle.std.proofs.lemmas.List.{length-map, length-append, length-set, map-append, get_or_append_left, get_or-set_same, get_or-set_other}
use Rattle.std.proofs.Math.Seq.{map-set_same, get_or-append_seam}
use Rattle.std.proofs.lemmas.List.Elements.{All-push, All-weaker}
use Rattle.std.proofs.lemmas.List.Folds.{find-append, list_any_at}
use Rattle.std.proofs.lemmas.List.Quantifiers.{all_pairs_push}
use Rattle.vote_quorum.specs.declared.value.Value.{Value}
use Rattle.vote_quorum.specs.declared.marks.Candidate.{Candidate}
use Rattle.vote_quorum.specs.declared.marks.Mark.{Mark}
use Rattle.vote_quorum.specs.Ballots.{Ballot, has_ballot, log_count}
use Rattle.vote_quorum.specs.Marks.{IsTally, values_of, value_at, ballots_of}
use Rattle.vote_quorum.proofs.Adding.{log_count-new, log_count-other, is_some-find}
use Rattle.vote_quorum.proofs.Places.{nobody, value_at-candidate}
use Rattle.vote_quorum.proofs.Kept.{placed_among, count_elsewhere, ballot_elsewhere}

-- the first value of a ballot that passes
abbrev pub first_of : (Value → Bool) → List Ballot → Option Value
first_of test bs = option_map (λ b. b.1) (find (λ b. test b.1) bs)

-- a ballot behind one that passes is not the first
first_of-kept : (test : Value → Bool) (bs : List Ballot) (b : Ballot) → (test b.1 ≡ true → is_some (first_of test bs) ≡ true) → first_of test (bs ++ b ∷ []) ≡ first_of test bs
first_of-kept test bs b before =
    ap (option_map (λ b. b.1)) (find-append (λ b. test b.1) bs (b ∷ []))
    ∙ elim (find (λ b. test b.1) bs) as (λ o. (test b.1 ≡ true → is_some (option_map (λ (b : Ballot). b.1) o) ≡ true) → option_map (λ b. b.1) (option_or o (cond (test b.1) (Some b) None)) ≡ option_map (λ b. b.1) o) [
      | Some x ↦ λ _. refl
      | None ↦ λ before. elim (test b.1) as (λ t. (t ≡ true → false ≡ true) → option_map (λ (b : Ballot). b.1) (cond t (Some b) None) ≡ None) [
        | true ↦ λ before. absurd (both_ways false refl (before refl))
        | false ↦ λ _. refl
      ] before
    ] before

-- a ballot for a new value stands behind the others
first_of-push : (test : Value → Bool) (vs : List Value) (bs : List Ballot) (l : ℕ) (v : Value) → find test vs ≡ first_of test bs → find test (vs ++ v ∷ []) ≡ first_of test (bs ++ (l, v) ∷ [])
first_of-push test vs bs l v same =
    find-append test vs (v ∷ [])
    ∙ ap (λ o. option_or o (cond (test v) (Some v) None)) same
    ∙ elim (find (λ b. test b.1) bs) as (λ o. option_or (option_map (λ (b : Ballot). b.1) o) (cond (test v) (Some v) None) ≡ option_map (λ b. b.1) (option_or o (cond (test v) (Some (l, v)) None))) [
      | Some x ↦ refl
      | None ↦ elim (test v) as (λ t. cond t (Some v) None ≡ option_map (λ (b : Ballot). b.1) (cond t (Some (l, v)) None)) [ true ↦ refl | false ↦ refl ]
    ]
    ∙ sym (ap (option_map (λ b. b.1)) (find-append (λ b. test b.1) bs ((l, v) ∷ [])))

-- one more log for a candidate: the values stay
pub values_kept : (cs : List Candidate) (place : ℕ) (c : Candidate) → place < length cs → c.value ≡ value_at (values_of cs) place → values_of (set cs place c) ≡ values_of cs
values_kept cs place c here same =
    map-set_same (λ c. c.value) cs place c c (same ∙ value_at-candidate cs place c here)

-- and the ballot is the last one
pub ballots_known : (cs : List Candidate) (ms : List Mark) (l place : ℕ) (c : Candidate) → place < length cs → c.value ≡ value_at (values_of cs) place → ballots_of (values_of (set cs place c)) (ms ++ record { log = l; candidate = place } ∷ []) ≡ ballots_of (values_of cs) ms ++ (l, value_at (values_of cs) place) ∷ []
ballots_known cs ms l place c here same =
    ap (λ vs. ballots_of vs (ms ++ record { log = l; candidate = place } ∷ [])) (values_kept cs place c here same)
    ∙ map-append (λ (m : Mark). (m.log, value_at (values_of cs) m.candidate)) ms (record { log = l; candidate = place } ∷ [])

-- the counts with one more ballot for the candidate at a place
counted_known : (cs : List Candidate) (ms : List Mark) (l place : ℕ) (c : Candidate) → IsTally cs ms → place < length cs → has_ballot (ballots_of (values_of cs) ms) (l, value_at (values_of cs) place) ≡ false
    → c.value ≡ value_at (values_of cs) place → c.logs ≡ log_count (ballots_of (values_of cs) ms) (value_at (values_of cs) place) + 1
    → All (λ d. d.logs ≡ log_count (ballots_of (values_of cs) ms ++ (l, value_at (values_of cs) place) ∷ []) d.value) (set cs place c)
counted_known cs ms l place c kept here new same more k d in_list =
    let in_old : k < length cs = omega (arith, in_list, length-set cs place c) in
    let C : Candidate → Type 0 = λ x. x.logs ≡ log_count (ballots_of (values_of cs) ms ++ (l, value_at (values_of cs) place) ∷ []) x.value in
    ⊎_elim
    (λ (at : k ≡ place).
    let is : c ≡ get_or (set cs place c) k d = sym (ap (λ j. get_or (set cs place c) j d) at ∙ get_or-set_same cs place c d here) in
    subst C is
    (more
    ∙ sym (log_count-new (ballots_of (values_of cs) ms) l (value_at (values_of cs) place) new)
    ∙ ap (log_count (ballots_of (values_of cs) ms ++ (l, value_at (values_of cs) place) ∷ [])) (sym same)))
    (λ (off : k ≡ place → ⊥).
    let is : get_or cs k d ≡ get_or (set cs place c) k d = sym (get_or-set_other cs place k c d off) in
    let others : value_at (values_of cs) place ≢ (get_or cs k d).value =
    λ e. other_place k off in_old (e ∙ sym (value_at-candidate cs k d in_old)) in
    subst C is
    (kept.counted k d in_old ∙ sym (log_count-other (ballots_of (values_of cs) ms) l (value_at (values_of cs) place) (get_or cs k d).value others)))
    (cases_eq k place) where
      other_place : (k : ℕ) → (k ≡ place → ⊥) → k < length cs → value_at (values_of cs) place ≡ value_at (values_of cs) k → ⊥
      other_place k off in_old e =
          ⊎_elim (λ (at : k ≡ place). off at)
          (λ (apart : (k < place) ⊎ (place < k)).
          ⊎_elim
          (λ (before : k < place). kept.apart k place nobody before (omega (arith, length-map cs (λ c. c.value))) (sym e))
          (λ (behind : place < k). kept.apart place k nobody behind (omega (arith, length-map cs (λ c. c.value))) e)
          apart)
          (cases_order k place)

pub tally_known : (cs : List Candidate) (ms : List Mark) (l place : ℕ) (c : Candidate) → IsTally cs ms → place < length cs → has_ballot (ballots_of (values_of cs) ms) (l, value_at (values_of cs) place) ≡ false
    → c.value ≡ value_at (values_of cs) place → c.logs ≡ log_count (ballots_of (values_of cs) ms) (value_at (values_of cs) place) + 1
    → IsTally (set cs place c) (ms ++ record { log = l; candidate = place } ∷ [])
tally_known cs ms l place c kept here new same more =
    let be = ballots_known cs ms l place c here same in
    let ve = values_kept cs place c here same in
    record {
      placed = All-push (λ m. m.candidate < length (set cs place c)) ms (record { log = l; candidate = place })
          (All-weaker (λ m. m.candidate < length cs) (λ m. m.candidate < length (set cs place c)) (λ m h. omega (arith, length-set cs place c, h)) ms kept.placed)
          (omega (arith, length-set cs place c));
      apart = subst (AllPairs (λ v w. v ≢ w)) (sym ve) kept.apart;
      counted = (let P : List Ballot → Type 0 = λ bs. All (λ c. c.logs ≡ log_count bs c.value) (set cs place c) in
          subst P (sym be) (counted_known cs ms l place c kept here new same more));
      in_order = λ test.
          ap (find test) ve ∙ kept.in_order test
          ∙ sym (first_of-kept test (ballots_of (values_of cs) ms) (l, value_at (values_of cs) place) (λ passes.
          ap is_some (sym (kept.in_order test)) ∙ is_some-find test (values_of cs)
          ∙ list_any_at test (values_of cs) place nobody (omega (arith, length-map cs (λ c. c.value))) passes))
          ∙ sym (ap (first_of test) be);
    }

-- a value at a place that was there is there with one more value
ballots_wider : (vs : List Value) (v : Value) (ms : List Mark) → AllByRecursion (λ m. m.candidate < length vs) ms → ballots_of (vs ++ v ∷ []) ms ≡ ballots_of vs ms
ballots_wider vs v [] placed = refl
ballots_wider vs v (m ∷ ms) placed =
    ap (λ w. (m.log, w) ∷ ballots_of (vs ++ v ∷ []) ms) (get_or_append_left vs (v ∷ []) nobody m.candidate placed.0)
    ∙ ap (λ bs. (m.log, value_at vs m.candidate) ∷ bs) (ballots_wider vs v ms placed.1)

-- a new candidate: its ballot is the last one
pub ballots_new : (cs : List Candidate) (ms : List Mark) (l : ℕ) (v : Value) → IsTally cs ms → ballots_of (values_of (cs ++ record { value = v; logs = 1 } ∷ [])) (ms ++ record { log = l; candidate = length cs } ∷ []) ≡ ballots_of (values_of cs) ms ++ (l, v) ∷ []
ballots_new cs ms l v kept =
    let last : value_at (values_of cs ++ v ∷ []) (length cs) ≡ v =
    ap (value_at (values_of cs ++ v ∷ [])) (sym (length-map cs (λ c. c.value))) ∙ get_or-append_seam (values_of cs) v [] nobody in
    ap (λ vs. ballots_of vs (ms ++ record { log = l; candidate = length cs } ∷ [])) (map-append (λ c. c.value) cs (record { value = v; logs = 1 } ∷ []))
    ∙ map-append (λ (m : Mark). (m.log, value_at (values_of cs ++ v ∷ []) m.candidate)) ms (record { log = l; candidate = length cs } ∷ [])
    ∙ ap (λ bs. bs ++ (l, value_at (values_of cs ++ v ∷ []) (length cs)) ∷ []) (ballots_wider (values_of cs) v ms (placed_among cs ms kept))
    ∙ ap (λ w. ballots_of (values_of cs) ms ++ (l, w) ∷ []) last

pub tally_new : (cs : List Candidate) (ms : List Mark) (l : ℕ) (v : Value) → IsTally cs ms → All (λ w. w ≢ v) (values_of cs)
    → IsTally (cs ++ record { value = v; logs = 1 } ∷ []) (ms ++ record { log = l; candidate = length cs } ∷ [])
tally_new cs ms l v kept none =
    let be = ballots_new cs ms l v kept in
    let ve = map-append (λ (c : Candidate). c.value) cs (record { value = v; logs = 1 } ∷ []) in
    let long : length (cs ++ record { value = v; logs = 1 } ∷ []) ≡ length cs + 1 = length-append cs (record { value = v; logs = 1 } ∷ []) in
    record {
      placed = All-push (λ m. m.candidate < length (cs ++ record { value = v; logs = 1 } ∷ [])) ms (record { log = l; candidate = length cs })
          (All-weaker (λ m. m.candidate < length cs) (λ m. m.candidate < length (cs ++ record { value = v; logs = 1 } ∷ [])) (λ m h. omega (arith, long, h)) ms kept.placed)
          (omega (arith, long));
      apart = subst (AllPairs (λ v w. v ≢ w)) (sym ve) (all_pairs_push (λ v w. v ≢ w) (values_of cs) v kept.apart none);
      counted = (let P : List Ballot → Type 0 = λ bs. All (λ c. c.logs ≡ log_count bs c.value) (cs ++ record { value = v; logs = 1 } ∷ []) in
          subst P (sym be) (All-push (λ c. c.logs ≡ log_count (ballots_of (values_of cs) ms ++ (l, v) ∷ []) c.value) cs (record { value = v; logs = 1 })
          (λ k d h. kept.counted k d h ∙ sym (log_count-other (ballots_of (values_of cs) ms) l v (get_or cs k d).value (λ e. none k nobody (omega (arith, length-map cs (λ c. c.value))) (value_at-candidate cs k d h ∙ sym e))))
          (ap (λ n. n + 1) (sym (count_elsewhere cs ms v kept none)) ∙ sym (log_count-new (ballots_of (values_of cs) ms) l v (ballot_elsewhere cs ms l v kept none)))));
      in_order = λ test.
          ap (find test) ve
          ∙ first_of-push test (values_of cs) (ballots_of (values_of cs) ms) l v (kept.in_order test)
          ∙ sym (ap (first_of test) be);
    }
