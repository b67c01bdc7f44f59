use Rattle.std.proofs.Common.{rules, ◌≡◌, ◌<◌, ◌++◌, ◌∙◌, List, [], ◌∷◌, length, get_or, ap, append_assoc, arith, refl, sym, subst}
use Rattle.std.proofs.lemmas.List.{append-nil, nil_from_length}
use Rattle.std.specs.List.{AllByRecursion}
use Rattle.std.specs.Vec.Iter.{into_iter_items}
use Rattle.node_crowd.specs.Bringing.{brought_to}
use Rattle.shared_node.specs.Seats.{IsSeatOf}
use Rattle.node_crowd.specs.Stalls.{HasServed, IsIdle}
use Rattle.node_crowd.specs.Working.{RowServes}
use Rattle.node_crowd.proofs.AlongLemmas.{zip_long}
use Rattle.node_crowd.proofs.BringingLemmas.{same_shares, serves_next, serves_own, serves_start}
use Rattle.node_crowd.proofs.serving.serve.Goals as goal

pub loop-errand-init : goal.loop-errand-init
loop-errand-init g c = (
  zip_long (λ booth stall. IsIdle booth.node stall) c.args.booths.now c.args.row.now c.requires.ready.idle,
  subst (λ l. AllByRecursion (λ errand. errand.place < length c.args.booths.now) l) (sym c.into_iter-errand-iterator.ensures.into_iter_gives.0) c.requires.ready.there,
  serves_start g.C.Core.next (λ booth. booth.node) (λ booth. g.F.Finish.finished booth.finish) c.args.booths.now c.args.row.now c.requires.ready.idle,
  λ place. refl,
  refl,
  search rules,
)

pub bring-requires-clause-own : goal.bring-requires-clause-own
bring-requires-clause-own g c κs within =
    subst (λ booth. IsSeatOf booth.node (get_or c.loop-errand.row c.in-Some.errand.place c.index-row-place.result).seat) (sym c.index-booths-place.is)
    (serves_own g.C.Core.next (λ booth. booth.node) (λ booth. g.F.Finish.finished booth.finish) c.args.booths.now c.loop-errand.row (λ place. brought_to place c.loop-errand.yielded) c.in-Some.errand.place
    c.index-booths-place.result c.index-row-place.result (search rules) c.loop-errand.invariant.2).own

pub loop-errand-preserved : goal.loop-errand-preserved
loop-errand-preserved g c = (
  search rules,
  (subst (λ l. AllByRecursion (λ errand. errand.place < length c.args.booths.now) l) c.in-Some.ensures.steps.0 c.loop-errand.invariant.1).1,
  serves_next g.C.Core.next (λ booth. booth.node) (λ booth. g.F.Finish.finished booth.finish) c.args.booths.now c.loop-errand.row _ c.loop-errand.yielded c.in-Some.errand c.index-booths-place.result c.index-row-place.result
      c.bring.new.stall (search rules) refl
      (subst
      (λ booth. (brought : List _) → HasServed g.C.Core.next booth.node (g.F.Finish.finished booth.finish) (get_or c.loop-errand.row c.in-Some.errand.place c.index-row-place.result) brought
      → HasServed g.C.Core.next booth.node (g.F.Finish.finished booth.finish) c.bring.new.stall (brought ++ c.in-Some.errand.input ∷ []))
      c.index-booths-place.is c.in_ok-bring.ensures.served)
      c.loop-errand.invariant.2,
  λ place. same_shares place c.loop-errand.row _ c.in-Some.errand.place c.index-row-place.result c.bring.new.stall (search rules) refl c.in_ok-bring.ensures.share ∙ c.loop-errand.invariant.3 place,
  append_assoc c.loop-errand.yielded _ _ ∙ ap (λ l. c.loop-errand.yielded ++ l) (sym c.in-Some.ensures.steps.0) ∙ c.loop-errand.invariant.4,
  (let long = c.loop-errand.invariant.5 in let one = c.in-Some.ensures.steps.1 in let items = ap length c.in-Some.ensures.steps.0 in omega (arith, long, one, items)),
)

pub returns-clause-served : goal.returns-clause-served
returns-clause-served g c =
    let none : into_iter_items c.loop-errand.errand-iterator ≡ [] = nil_from_length (into_iter_items c.loop-errand.errand-iterator) (sym c.loop-errand.invariant.5 ∙ c.in-None.ensures.steps.0) in
    let all : c.loop-errand.yielded ≡ c.args.errands.items =
    sym (append-nil c.loop-errand.yielded) ∙ ap (λ l. c.loop-errand.yielded ++ l) (sym none) ∙ c.loop-errand.invariant.4 ∙ c.into_iter-errand-iterator.ensures.into_iter_gives.0 in
    subst (λ l. RowServes (λ booth. booth.node) g.C.Core.next (λ booth. g.F.Finish.finished booth.finish) c.args.booths.now c.loop-errand.row (λ place. brought_to place l)) all c.loop-errand.invariant.2
