use Rattle.std.proofs.Common.{sym, subst}
use Rattle.shared_node.specs.Seats.{IsSeatOf}
use Rattle.node_crowd.specs.Stalls.{StallParts}
use Rattle.node_crowd.proofs.OneLemmas.{is_joined}
use Rattle.node_crowd.proofs.stall.join.Goals as goal

pub returns : goal.returns
returns g c =
    rw (← c.stall.view_is, ← c.other.view_is)
    (is_joined g.C.Core.next c.args.node.now _ _ _ (subst (λ (s : StallParts _ _ _ _). IsSeatOf c.args.node.now s.seat) (sym c.stall.view_is) c.requires.own) c.join.ensures.joined c.join.ensures.seen
    c.in_ok-append.ensures.items)
