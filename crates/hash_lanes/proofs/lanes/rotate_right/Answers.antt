use Rattle.std.proofs.Common.{◌∙◌, ◌-◌, ◌*◌, ◌/◌, ◌%◌, ◌^◌, [], ◌∷◌, slice_index}
use Rattle.std.proofs.lemmas.Simd.{length-zip2}
use Rattle.hash_lanes.proofs.LaneLemmas.{lane_by, lane_rotated}
use Rattle.hash_lanes.proofs.lanes.rotate_right.Goals as goal

pub returns : goal.returns
returns c i below =
    let a = c.args.a in
    let k = c.args.k in
    let j = 32 - k in
    let long = c.fits-a.0 in
    lane_rotated k c.requires.low c.requires.high _ _ (slice_index a i) i
    (length-zip2 (λ x n. x / 2 ^ n) a (k ∷ k ∷ k ∷ k ∷ []) long ∙ long)
    (length-zip2 (λ x n. x * 2 ^ n % 2 ^ 32) a (j ∷ j ∷ j ∷ j ∷ []) long ∙ long) below
    (lane_by (λ x n. x / 2 ^ n) k a long i below)
    (lane_by (λ x n. x * 2 ^ n % 2 ^ 32) j a long i below)
