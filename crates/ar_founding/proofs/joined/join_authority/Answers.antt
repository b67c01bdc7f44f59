use Rattle.std.proofs.Common.{arith, ap, length}
use Rattle.ar_founding.specs.Founded.{IsAuthorityRing}
use Rattle.ar_founding.proofs.FirstParties.{authority-joined, first-own}
use Rattle.ar_founding.proofs.joined.join_authority.Goals as goal

pub authority_node-requires : goal.authority_node-requires
authority_node-requires g c = record { own = (first-own IsAuthorityRing _ _ _ _ _ _ c.take_first-state.ensures c.take_first-ring.ensures c.requires.own).0 }

pub returns-clause-same : goal.returns-clause-same
returns-clause-same g c =
    authority-joined _ _ _ _ _ _ _ _ _ _ _ c.take_next-check.result c.take_first-state.ensures c.take_first-ring.ensures c.take_next-check.ensures.first c.take_next-check.ensures.rest (cc)

pub returns-clause-left : goal.returns-clause-left
returns-clause-left g c = omega (arith, ap length c.take_first-state.ensures)

pub returns-clause-own : goal.returns-clause-own
returns-clause-own g c = (first-own IsAuthorityRing _ _ _ _ _ _ c.take_first-state.ensures c.take_first-ring.ensures c.requires.own).1

pub returns-clause-room : goal.returns-clause-room
returns-clause-room g c = omega (arith, ap length c.take_first-state.ensures)
