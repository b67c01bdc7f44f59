use Rattle.std.proofs.Common.{slice_index}
use Rattle.hash_lanes.proofs.LaneLemmas.{lane_fits}
use Rattle.hash_lanes.proofs.TextLemmas.{joined_words}
use Rattle.hash_lanes.proofs.text.behind_one_byte.Goals as goal

pub returns : goal.returns
returns c i below =
    rw (c.or.ensures i below, c.shift_left.ensures i below, c.shift_right.ensures i below)
    (joined_words (slice_index c.args.first i) (slice_index c.args.next i)
    (lane_fits c.args.next i c.fits-next.0 c.fits-next.1 below))
