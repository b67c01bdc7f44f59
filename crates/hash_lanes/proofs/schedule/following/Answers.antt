use Rattle.std.proofs.Common.{refl}
use Rattle.hash_lanes.proofs.schedule.following.Goals as goal

pub returns : goal.returns
returns c i below =
    rw (
      c.add.ensures i below,
      c.add-three.ensures i below,
      c.add-near.ensures i below,
      c.small_sigma0.ensures i below,
      c.small_sigma1.ensures i below,
    ) refl
