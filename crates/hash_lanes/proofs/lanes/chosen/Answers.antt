use Rattle.std.proofs.Common.{sym}
use Rattle.hash_lanes.proofs.LaneLemmas.{lane_of-eight}
use Rattle.hash_lanes.proofs.lanes.chosen.Goals as goal

pub returns-clause-moved : goal.returns-clause-moved
returns-clause-moved c i below is =
    let moves = c.mask_of-mask.ensures.moved i below is in
    rw (
      c.choose.ensures.moved i below moves,
      c.choose-2.ensures.moved i below moves,
      c.choose-3.ensures.moved i below moves,
      c.choose-4.ensures.moved i below moves,
      c.choose-5.ensures.moved i below moves,
      c.choose-6.ensures.moved i below moves,
      c.choose-7.ensures.moved i below moves,
      c.choose-8.ensures.moved i below moves,
    ) (sym (lane_of-eight c.args.moved.now i c.told-moved))

pub returns-clause-left : goal.returns-clause-left
returns-clause-left c i below is =
    let stays = c.mask_of-mask.ensures.left i below is in
    rw (
      c.choose.ensures.left i below stays,
      c.choose-2.ensures.left i below stays,
      c.choose-3.ensures.left i below stays,
      c.choose-4.ensures.left i below stays,
      c.choose-5.ensures.left i below stays,
      c.choose-6.ensures.left i below stays,
      c.choose-7.ensures.left i below stays,
      c.choose-8.ensures.left i below stays,
    ) (sym (lane_of-eight c.args.stayed.now i c.told-stayed))
