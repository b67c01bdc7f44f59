use Rattle.std.proofs.Common.{◌≡◌, ◌∙◌, ◌+◌, ◌<◌, ℕ, List, [], ◌∷◌, arith, slice_index, sym}
use Rattle.sha2.specs.Sha256.{initial_hash_256, rounds, schedule}
use Rattle.sha2.proofs.Schedule256.{slice_index-schedule_first}
use Rattle.hash_lanes.specs.Lanes.{lane_of}
use Rattle.hash_lanes.proofs.LaneLemmas.{each_of_five, splat_lane}
use Rattle.hash_lanes.proofs.compression.first_rounds.Goals as goal

pub returns : goal.returns
unfolding rounds
returns c = λ block i below begins.
    let all = schedule block 48 in
    let leaves = c.args.leaves.now in
    let word : ℕ → ℕ = slice_index c.args.id.now in
    let lanes : ℕ → List ℕ = λ k. word k ∷ word k ∷ word k ∷ word k ∷ [] in
    let each : (k : ℕ) → k < 4 → slice_index (lanes k) i ≡ slice_index all k = λ k within.
    splat_lane (word k) i below ∙ sym (begins.id_words k within) ∙ sym (slice_index-schedule_first block 48 k (omega arith)) in
    let last : slice_index leaves i ≡ slice_index all 4 = sym begins.leaf_word ∙ sym (slice_index-schedule_first block 48 4 (omega arith)) in
    let words = each_of_five (λ k. slice_index (lane_of (lanes 0 ∷ lanes 1 ∷ lanes 2 ∷ lanes 3 ∷ leaves ∷ []) i) k ≡ slice_index all (0 + k))
    (each 0 (omega arith)) (each 1 (omega arith)) (each 2 (omega arith)) (each 3 (omega arith)) last in
    c.five_rounds.ensures initial_hash_256 all i below words (c.initial.ensures i below)
