use Rattle.std.proofs.Common.{rules, ◌≡◌, ◌∙◌, [], List, length, ap, arith, sym, subst}
use Rattle.std.proofs.lemmas.List.{nil_from_length}
use Rattle.std.specs.Vec.Iter.{into_iter_items}
use Rattle.ar_seats.specs.Shares.{whole}
use Rattle.node_crowd.specs.Along.{Abreast}
use Rattle.node_crowd.specs.Stalls.{HasGathered}
use Rattle.node_crowd.specs.Working.{IsTaken}
use Rattle.node_crowd.proofs.AbreastLemmas.{closes_end, closes_next, zip_heads}
use Rattle.node_crowd.proofs.closing.close_all.Goals as goal

pub loop-stall-preserved : goal.loop-stall-preserved
loop-stall-preserved g c = (
  (zip_heads (λ booth stall. ((lists : List (List g.row.C-Input.Denot)) × HasGathered g.C.Core.next booth.node (g.F.Finish.finished booth.finish) stall lists) × (stall.seat.share ≡ whole))
      _ _ _ _ c.in-Some-next.booth c.in-Some.stall c.in-Some-next.ensures.cases.0 c.in-Some.ensures.steps.0 c.loop-stall.invariant.0).1,
  closes_next
      (λ booth stall taken. (taken.finish ≡ booth.finish) × ((lists : List (List g.row.C-Input.Denot))
      → HasGathered g.C.Core.next booth.node (g.F.Finish.finished booth.finish) stall lists
      → IsTaken g.C.Core.next g.C.Core.legal (g.F.Finish.finished booth.finish) booth.node.first lists taken.history.items (g.C.Core.state taken.core) taken.replies.items))
      _ _ _ _ _ _ c.loop-stall.all.items _ c.in-Some-next.booth c.in-Some.stall c.in_ok-taken.taken c.in-Some-next.ensures.cases.0 c.in-Some.ensures.steps.0 (search rules)
      (c.in_ok-taken.ensures.finish, c.in_ok-taken.ensures.taken) c.loop-stall.invariant.1,
  (let long = c.loop-stall.invariant.2 in let one = c.in-Some-next.ensures.cases.1 in let items = ap length c.in-Some-next.ensures.cases.0 in omega (arith, long, one, items)),
  (let long = c.loop-stall.invariant.3 in let one = c.in-Some.ensures.steps.1 in let items = ap length c.in-Some.ensures.steps.0 in omega (arith, long, one, items)),
)

pub returns : goal.returns
returns g c =
    let none : into_iter_items c.loop-stall.stall-iterator ≡ [] = nil_from_length (into_iter_items c.loop-stall.stall-iterator) (sym c.loop-stall.invariant.3 ∙ c.in-None.ensures.steps.0) in
    let all = closes_end
    (λ booth stall taken. (taken.finish ≡ booth.finish) × ((lists : List (List g.row.C-Input.Denot))
    → HasGathered g.C.Core.next booth.node (g.F.Finish.finished booth.finish) stall lists
    → IsTaken g.C.Core.next g.C.Core.legal (g.F.Finish.finished booth.finish) booth.node.first lists taken.history.items (g.C.Core.state taken.core) taken.replies.items))
    (into_iter_items c.into_iter-rest.result) (into_iter_items c.loop-stall.rest) (into_iter_items c.into_iter-stall-iterator.result) (into_iter_items c.loop-stall.stall-iterator) c.loop-stall.all.items
    (λ booth stall. ((lists : List (List g.row.C-Input.Denot)) × HasGathered g.C.Core.next booth.node (g.F.Finish.finished booth.finish) stall lists) × (stall.seat.share ≡ whole))
    none c.loop-stall.invariant.0 c.loop-stall.invariant.1 in
    subst (λ l. Abreast
    (λ booth stall taken. (taken.finish ≡ booth.finish) × ((lists : List (List g.row.C-Input.Denot))
    → HasGathered g.C.Core.next booth.node (g.F.Finish.finished booth.finish) stall lists
    → IsTaken g.C.Core.next g.C.Core.legal (g.F.Finish.finished booth.finish) booth.node.first lists taken.history.items (g.C.Core.state taken.core) taken.replies.items))
    l c.args.base.items c.loop-stall.all.items) c.into_iter-rest.ensures.rest
    (subst (λ l. Abreast
    (λ booth stall taken. (taken.finish ≡ booth.finish) × ((lists : List (List g.row.C-Input.Denot))
    → HasGathered g.C.Core.next booth.node (g.F.Finish.finished booth.finish) stall lists
    → IsTaken g.C.Core.next g.C.Core.legal (g.F.Finish.finished booth.finish) booth.node.first lists taken.history.items (g.C.Core.state taken.core) taken.replies.items))
    (into_iter_items c.into_iter-rest.result) l c.loop-stall.all.items) c.into_iter-stall-iterator.ensures.into_iter_gives.0 all)
