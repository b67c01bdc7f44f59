use Rattle.std.proofs.Common.{rules}
use Rattle.shared_node.proofs.Keeping.{keeps_joined}
use Rattle.shared_node.proofs.StepsKeep.{compare_keeps}
use Rattle.shared_node.proofs.shared.SharedNode.join.Goals as goal

pub join_seat-requires : goal.join_seat-requires
join_seat-requires g c = (
  search rules,
  search rules,
  search rules,
  search rules,
  λ table kept at apart there. (kept.0, kept.1, kept.2, keeps_joined _ _ _ _ _ _ _ _ _ _ _ _ kept.3 at apart there (search rules) (search rules) (search rules)),
)

pub load-requires : goal.load-requires
load-requires g c = (search rules, search rules, compare_keeps _ _ _ _ _ _ _)
