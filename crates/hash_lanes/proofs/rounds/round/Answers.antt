use Rattle.std.proofs.Common.{refl}
use Rattle.hash_lanes.proofs.LaneLemmas.{slice_index-lane_of}
use Rattle.hash_lanes.proofs.rounds.round.Goals as goal

pub returns : goal.returns
returns c i below =
    let variable = slice_index-lane_of c.args.v i in
    rw (
      c.add.ensures i below,
      c.add-2.ensures i below,
      c.add-top.ensures i below,
      c.mixed-mix.ensures i below,
      c.big_sigma0.ensures i below,
      c.maj.ensures i below,
      variable 0,
      variable 1,
      variable 2,
      variable 3,
      variable 4,
      variable 5,
      variable 6,
      variable 7,
    ) refl
