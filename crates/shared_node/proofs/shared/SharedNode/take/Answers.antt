use Rattle.std.proofs.Common.{rules, refl, Some}
use Rattle.shared_node.proofs.StepsKeep.{enter_keeps}
use Rattle.shared_node.proofs.shared.SharedNode.take.Goals as goal

pub compare_exchange-holders-requires : goal.compare_exchange-holders-requires
compare_exchange-holders-requires g c = (search rules, search rules, enter_keeps _ _ _ _ _ _ _ (search rules) (search rules) (search rules))

pub exchange-requires : goal.exchange-requires
exchange-requires g c =
    let got = c.compare_exchange-holders.ensures.2.taken c.if-holders-eq0.true in
    (search rules, (Some got.node, rw got.after_is refl))
