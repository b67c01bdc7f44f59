use Rattle.std.proofs.Common.{rules}
use Rattle.shared_node.proofs.StepsKeep.{opens}
use Rattle.shared_node.proofs.shared.SharedNode.new.Goals as goal

pub new-requires-2 : goal.new-requires-2
new-requires-2 g c = opens _ _ _ _ _ (record { core = c.args.core; history = c.new.result }) (search rules) (search rules) (search rules)
