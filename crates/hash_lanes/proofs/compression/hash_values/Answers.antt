use Rattle.std.proofs.Common.{refl}
use Rattle.hash_lanes.proofs.LaneLemmas.{slice_index-lane_of, splat_lane}
use Rattle.hash_lanes.proofs.compression.hash_values.Goals as goal

pub returns : goal.returns
returns c i below =
    let variable = slice_index-lane_of c.args.v.now i in
    rw (
      variable 0,
      variable 1,
      variable 2,
      variable 3,
      variable 4,
      variable 5,
      variable 6,
      variable 7,
      c.add.ensures i below,
      c.add-2.ensures i below,
      c.add-3.ensures i below,
      c.add-4.ensures i below,
      c.add-5.ensures i below,
      c.add-6.ensures i below,
      c.add-7.ensures i below,
      c.add-8.ensures i below,
    ) (rw (
      splat_lane 0x6a09e667 i below,
      splat_lane 0xbb67ae85 i below,
      splat_lane 0x3c6ef372 i below,
      splat_lane 0xa54ff53a i below,
      splat_lane 0x510e527f i below,
      splat_lane 0x9b05688c i below,
      splat_lane 0x1f83d9ab i below,
      splat_lane 0x5be0cd19 i below,
    ) refl)
