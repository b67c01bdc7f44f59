use Rattle.hash_lanes.proofs.LaneLemmas.{lane_fits}
use Rattle.hash_lanes.proofs.Turns.{small_sigma1-nested}
use Rattle.hash_lanes.proofs.lanes.small_sigma1.Goals as goal

pub returns : goal.returns
returns c i below =
    rw (
      c.xor.ensures i below,
      c.rotate_right-2.ensures i below,
      c.xor-inner.ensures i below,
      c.rotate_right.ensures i below,
      c.shift_right.ensures i below,
    ) (small_sigma1-nested _ (lane_fits c.args.x i c.fits-x.0 c.fits-x.1 below))
