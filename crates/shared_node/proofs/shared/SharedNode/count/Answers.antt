use Rattle.std.proofs.Common.{rules}
use Rattle.shared_node.proofs.StepsKeep.{count_keeps, leave_keeps}
use Rattle.shared_node.proofs.shared.SharedNode.count.Goals as goal

pub fetch_add-place-requires : goal.fetch_add-place-requires
fetch_add-place-requires g c = (search rules, search rules, rw (c.exchange.ensures.3, c.requires.has.0) (count_keeps _ _ _ _ _ _ _ _ c.requires.call.0 (search rules) (search rules) (search rules) (search rules) (search rules)))

pub store-requires : goal.store-requires
store-requires g c = (search rules, search rules, rw (c.fetch_add-place.ensures.2.after_is, c.exchange.ensures.3, c.requires.has.0) (leave_keeps _ _ _ _ _ _ _ _ (search rules) (search rules) (search rules) (search rules)))
