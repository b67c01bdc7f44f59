use Rattle.std.proofs.Common.{◌≡◌, ◌∙◌, ◌+◌, ◌<◌, ℕ, [], ◌∷◌, arith, slice_index, slice_index_or, sym}
use Rattle.hash_lanes.specs.Lanes.{lane_of}
use Rattle.hash_lanes.proofs.LaneLemmas.{each_of_five, slice_index-lane_of}
use Rattle.hash_lanes.proofs.rounds.sixteen_rounds.Goals as goal

pub returns : goal.returns
returns given c = λ start all i below words held.
    let from = given.row.FROM in
    let all_words = c.args.words.now in
    let word : (k : ℕ) → k < 16 → slice_index (slice_index_or all_words k []) i ≡ slice_index all (from + k) = λ k within.
    sym (slice_index-lane_of all_words i k) ∙ words k within in
    let first = slice_index_or all_words 0 [] ∷ slice_index_or all_words 1 [] ∷ slice_index_or all_words 2 []
    ∷ slice_index_or all_words 3 [] ∷ slice_index_or all_words 4 [] ∷ [] in
    let five = each_of_five (λ k. slice_index (lane_of first i) k ≡ slice_index all (from + k))
    (word 0 (omega arith)) (word 1 (omega arith)) (word 2 (omega arith))
    (word 3 (omega arith)) (word 4 (omega arith)) in
    c.eleven_rounds.ensures start all i below words (c.five_rounds-after_five.ensures start all i below five held)
