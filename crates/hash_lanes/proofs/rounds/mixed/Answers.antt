use Rattle.std.proofs.Common.{refl}
use Rattle.hash_lanes.proofs.LaneLemmas.{slice_index-lane_of, splat_lane}
use Rattle.hash_lanes.proofs.rounds.mixed.Goals as goal

pub returns : goal.returns
returns c i below =
    let variable = slice_index-lane_of c.args.v i in
    rw (
      variable 4,
      variable 5,
      variable 6,
      variable 7,
      c.add-3.ensures i below,
      c.add-2.ensures i below,
      c.add-variables.ensures i below,
      c.add.ensures i below,
      c.big_sigma1.ensures i below,
      c.ch.ensures i below,
      splat_lane c.args.constant i below,
    ) refl
