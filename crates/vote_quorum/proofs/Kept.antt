-- What is kept of a tally stays true with one more ballot.
use Rattle.std.proofs.Common.{◌≡◌, ◌≢◌, ℕ, ◌<◌, List, [], ◌∷◌, length, get_or, refl, sym, ap, ◌∙◌, subst, arith, Bool, true, false, cond, eqb, leb, ◌&&◌, Some, Result}
use Rattle.std.specs.Prelude.{All}
use Rattle.std.specs.List.{AllByRecursion, find, list_any}
use Rattle.std.specs.Option.{option_map}
use Rattle.std.proofs.lemmas.List.{length-map}
use Rattle.std.proofs.lemmas.List.Elements.{recursion_from_All}
use Rattle.std.specs.declared.alloc.AllocError.{AllocError}
use Rattle.vote_quorum.specs.declared.added.Added.{Added}
use Rattle.vote_quorum.specs.declared.value.Value.{Value}
use Rattle.vote_quorum.specs.declared.marks.Candidate.{Candidate}
use Rattle.vote_quorum.specs.declared.marks.Mark.{Mark}
use Rattle.vote_quorum.specs.Ballots.{Ballot, has_ballot, log_count, quorum_of, Adds}
use Rattle.vote_quorum.specs.Marks.{IsTally, values_of, value_at, ballots_of}
use Rattle.vote_quorum.proofs.Adding.{log_count-none}
use Rattle.vote_quorum.proofs.Places.{value_at-candidate, nobody_for, has_ballot-none, marked}

-- marks have places among the values
pub placed_among : (cs : List Candidate) (ms : List Mark) → IsTally cs ms → AllByRecursion (λ m. m.candidate < length (values_of cs)) ms
placed_among cs ms kept = go ms (recursion_from_All (λ m. m.candidate < length cs) ms kept.placed) where
  go : (ms : List Mark) → AllByRecursion (λ m. m.candidate < length cs) ms → AllByRecursion (λ m. m.candidate < length (values_of cs)) ms
  go [] all = tt
  go (m ∷ ms) all = (omega (arith, all.0, length-map cs (λ c. c.value)), go ms all.1)

-- a place has its number of logs
pub counted_at : (cs : List Candidate) (ms : List Mark) (place : ℕ) (d : Candidate) → IsTally cs ms → place < length cs → (get_or cs place d).logs ≡ log_count (ballots_of (values_of cs) ms) (value_at (values_of cs) place)
counted_at cs ms place d kept h =
    kept.counted place d h ∙ ap (log_count (ballots_of (values_of cs) ms)) (sym (value_at-candidate cs place d h))

-- a mark tells whether the ballot is there
pub marked_in : (cs : List Candidate) (ms : List Mark) (l place : ℕ) → IsTally cs ms → place < length cs → list_any (λ m. eqb m.log l && eqb m.candidate place) ms ≡ has_ballot (ballots_of (values_of cs) ms) (l, value_at (values_of cs) place)
marked_in cs ms l place kept h =
    marked (values_of cs) ms l place kept.apart (placed_among cs ms kept) (omega (arith, length-map cs (λ c. c.value)))

pub told_by_mark : (cs : List Candidate) (ms read : List Mark) (l place : ℕ) (answer : Bool) → IsTally cs ms → place < length cs → read ≡ ms
    → answer ≡ list_any (λ m. eqb m.log l && eqb m.candidate place) read → has_ballot (ballots_of (values_of cs) ms) (l, value_at (values_of cs) place) ≡ answer
told_by_mark cs ms read l place answer kept h same is =
    sym (is ∙ ap (list_any (λ m. eqb m.log l && eqb m.candidate place)) same ∙ marked_in cs ms l place kept h)

-- an addition, in the words of its caller
pub adds_moved : (cs read : List Candidate) (ms : List Mark) (l place : ℕ) (v : Value) (answer : Result Added AllocError) (old new : List Ballot)
    → read ≡ cs → ballots_of (values_of cs) ms ≡ old → value_at (values_of cs) place ≡ v
    → Adds (l, value_at (values_of read) place) answer (ballots_of (values_of read) ms) new → Adds (l, v) answer old new
adds_moved cs read ms l place v answer old new same is at adds =
    let P : List Candidate → Type 0 = λ cs. Adds (l, value_at (values_of cs) place) answer (ballots_of (values_of cs) ms) new in
    let Q : Value → Type 0 = λ w. Adds (l, w) answer (ballots_of (values_of cs) ms) new in
    let R : List Ballot → Type 0 = λ bs. Adds (l, v) answer bs new in
    subst R is (subst Q at (subst P same adds))

-- a value that is not kept has no logs
pub count_elsewhere : (cs : List Candidate) (ms : List Mark) (v : Value) → IsTally cs ms → All (λ w. w ≢ v) (values_of cs) → log_count (ballots_of (values_of cs) ms) v ≡ 0
count_elsewhere cs ms v kept none = log_count-none _ v (nobody_for (values_of cs) ms v none (placed_among cs ms kept))

pub ballot_elsewhere : (cs : List Candidate) (ms : List Mark) (l : ℕ) (v : Value) → IsTally cs ms → All (λ w. w ≢ v) (values_of cs) → has_ballot (ballots_of (values_of cs) ms) (l, v) ≡ false
ballot_elsewhere cs ms l v kept none = has_ballot-none _ l v (nobody_for (values_of cs) ms v none (placed_among cs ms kept))

-- the first candidate with q logs has the first value with q logs
pub first_with-quorum : (cs : List Candidate) (ms : List Mark) (q : ℕ) → IsTally cs ms → option_map (λ c. c.value) (find (λ c. leb q c.logs) cs) ≡ quorum_of (ballots_of (values_of cs) ms) q
first_with-quorum cs ms q kept =
    along cs (recursion_from_All (λ c. c.logs ≡ log_count (ballots_of (values_of cs) ms) c.value) cs kept.counted)
    ∙ kept.in_order (λ v. leb q (log_count (ballots_of (values_of cs) ms) v)) where
      along : (rest : List Candidate) → AllByRecursion (λ c. c.logs ≡ log_count (ballots_of (values_of cs) ms) c.value) rest → option_map (λ c. c.value) (find (λ c. leb q c.logs) rest) ≡ find (λ v. leb q (log_count (ballots_of (values_of cs) ms) v)) (values_of rest)
      along [] all = refl
      along (c ∷ rest) all =
          ap (λ n. option_map (λ c. c.value) (cond (leb q n) (Some c) (find (λ c. leb q c.logs) rest))) all.0
          ∙ elim (leb q (log_count (ballots_of (values_of cs) ms) c.value)) as (λ t. option_map (λ c. c.value) (cond t (Some c) (find (λ c. leb q c.logs) rest)) ≡ cond t (Some c.value) (find (λ v. leb q (log_count (ballots_of (values_of cs) ms) v)) (values_of rest))) [
            | true ↦ refl
            | false ↦ along rest all.1
          ]
