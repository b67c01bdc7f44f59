use Rattle.std.proofs.Common.{◌≡◌, ◌∙◌, ◌+◌, ◌<◌, ℕ, [], ap, arith, refl, slice_index, slice_index_or, sym}
use Rattle.hash_lanes.proofs.LaneLemmas.{slice_index-lane_of}
use Rattle.hash_lanes.proofs.RoundLemmas.{a_round_more}
use Rattle.hash_lanes.proofs.rounds.five_rounds.Goals as goal

pub returns : goal.returns
returns given c = λ start all i below words held.
    let from = given.row.FROM in
    let word : (k : ℕ) → k < 5 → slice_index (slice_index_or c.args.words.now k []) i ≡ slice_index all (from + k) = λ k within.
    sym (slice_index-lane_of c.args.words.now i k) ∙ words k within in
    let place : from + 0 ≡ from = omega arith in
    let first = word 0 (omega arith) ∙ ap (slice_index all) place in
    let s1 = a_round_more start all _ _ _ (from + 1) _ _ (omega arith) held refl first (c.round-v1.ensures i below) in
    let s2 = a_round_more start all _ _ _ (from + 2) _ _ (omega arith) s1 refl (word 1 (omega arith)) (c.round-v2.ensures i below) in
    let s3 = a_round_more start all _ _ _ (from + 3) _ _ (omega arith) s2 refl (word 2 (omega arith)) (c.round-v3.ensures i below) in
    let s4 = a_round_more start all _ _ _ (from + 4) _ _ (omega arith) s3 refl (word 3 (omega arith)) (c.round-v4.ensures i below) in
    let s5 = a_round_more start all _ _ _ (from + 5) _ _ (omega arith) s4 refl (word 4 (omega arith)) (c.round.ensures i below) in
    s5
