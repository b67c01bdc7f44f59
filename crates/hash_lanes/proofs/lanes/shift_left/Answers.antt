use Rattle.std.proofs.Common.{◌*◌, ◌%◌, ◌^◌}
use Rattle.hash_lanes.proofs.LaneLemmas.{lane_by}
use Rattle.hash_lanes.proofs.lanes.shift_left.Goals as goal

pub returns : goal.returns
returns c = lane_by (λ x n. x * 2 ^ n % 2 ^ 32) c.args.k c.args.a c.fits-a.0
