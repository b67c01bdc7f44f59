use Rattle.std.proofs.Common.{◌≡◌, ◌++◌, slice_index, [], ◌∷◌, w16}
use Rattle.std.specs.Int.{to_be_bytes}
use Rattle.sha2.specs.Sha256.{word_at}
use Rattle.hash_lanes.proofs.LaneLemmas.{each_of_four, lane_fits}
use Rattle.hash_lanes.proofs.TextLemmas.{joined_numbers}
use Rattle.hash_lanes.proofs.text.numbers.Goals as goal

pub returns : goal.returns
returns c i below =
    let chains = c.args.chains.now in
    let steps = c.args.steps.now in
    let numbers = c.ahead.result ∷ c.ahead-2.result ∷ c.ahead-3.result ∷ c.ahead-4.result ∷ [] in
    let each : slice_index numbers i ≡ word_at (to_be_bytes w16 (slice_index chains i) ++ slice_index steps i ∷ 0 ∷ []) 0 =
    each_of_four (λ j. slice_index numbers j ≡ word_at (to_be_bytes w16 (slice_index chains j) ++ slice_index steps j ∷ 0 ∷ []) 0)
    c.ahead.ensures c.ahead-2.ensures c.ahead-3.ensures c.ahead-4.ensures i below in
    rw (c.or.ensures i below, each, c.shift_right.ensures i below)
    (joined_numbers (slice_index chains i) (slice_index steps i) (slice_index c.args.value i)
    (lane_fits c.args.value i c.fits-value.0 c.fits-value.1 below))
