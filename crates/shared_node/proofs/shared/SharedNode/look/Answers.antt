use Rattle.std.proofs.Common.{rules}
use Rattle.shared_node.proofs.StepsKeep.{look_keeps}
use Rattle.shared_node.proofs.shared.SharedNode.look.Goals as goal

pub load-requires : goal.load-requires
load-requires g c = (search rules, search rules, look_keeps _ _ _ _ _ _ _)
