use Rattle.std.proofs.Common.{rules}
use Rattle.shared_node.proofs.StepsKeep.{leave_keeps}
use Rattle.shared_node.proofs.shared.SharedNode.leave.Goals as goal

pub store-requires : goal.store-requires
store-requires g c = (search rules, search rules, rw (c.exchange.ensures.3, c.requires.has.0) (leave_keeps _ _ _ _ _ _ _ _ (search rules) (search rules) (search rules) (search rules)))
