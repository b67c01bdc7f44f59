use Rattle.std.proofs.Common.{sym}
use Rattle.hash_lanes.proofs.LaneLemmas.{lane_of-eight}
use Rattle.hash_lanes.proofs.lanes.words_in.Goals as goal

pub returns : goal.returns
returns c = sym (lane_of-eight c.args.vectors.now c.args.lane c.told-vectors)
