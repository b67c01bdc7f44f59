use Rattle.std.proofs.Common.{◌≡◌, sym, subst}
use Rattle.shared_node.specs.Seats.{IsSeatOf}
use Rattle.ar_seats.specs.Shares.{whole}
use Rattle.node_crowd.specs.Stalls.{HasGathered}
use Rattle.node_crowd.proofs.ClosingLemmas.{is_taken, told_each}
use Rattle.node_crowd.proofs.closing.close.Goals as goal

pub close-core-requires-clause-own : goal.close-core-requires-clause-own
close-core-requires-clause-own g c κs within = subst (λ s. IsSeatOf c.args.booth.node s.seat) (sym c.stall.view_is) c.requires.gathered.1.own

pub close-core-requires-clause-all : goal.close-core-requires-clause-all
close-core-requires-clause-all g c κs within = subst (λ s. s.seat.share ≡ whole) (sym c.stall.view_is) c.requires.all

pub in_order-requires : goal.in_order-requires
in_order-requires g c =
    told_each g.C.Core.next c.args.booth.node (g.F.Finish.finished c.args.booth.finish) _ c.close-core.result.history.items c.requires.gathered.0
    (subst (λ s. HasGathered g.C.Core.next c.args.booth.node (g.F.Finish.finished c.args.booth.finish) s c.requires.gathered.0) (sym c.stall.view_is) c.requires.gathered.1) c.close-core.ensures.seen c.close-core.ensures.own

pub returns-clause-taken : goal.returns-clause-taken
returns-clause-taken g c = λ lists gathered.
    is_taken g.C.Core.next c.args.booth.node (g.F.Finish.finished c.args.booth.finish) _ c.close-core.result.history.items g.C.Core.legal _ c.in_ok-replies.replies.items lists
    (subst (λ s. HasGathered g.C.Core.next c.args.booth.node (g.F.Finish.finished c.args.booth.finish) s lists) (sym c.stall.view_is) gathered) c.close-core.ensures.replays c.close-core.ensures.seen c.close-core.ensures.own
    c.in_ok-replies.ensures
