use Rattle.std.proofs.Common.{rules, ◌≡◌, ◌∙◌, [], length, ap, arith, sym, subst}
use Rattle.std.proofs.lemmas.List.{nil_from_length}
use Rattle.std.specs.Vec.Iter.{into_iter_items}
use Rattle.node_crowd.specs.Along.{Abreast}
use Rattle.node_crowd.specs.Working.{IsOpened}
use Rattle.node_crowd.proofs.AbreastLemmas.{opens_end, opens_next, opens_start}
use Rattle.node_crowd.proofs.opening.open_all.Goals as goal

pub loop-desk-init : goal.loop-desk-init
loop-desk-init g c = (
  opens_start (λ desk booth stall. IsOpened g.C.Core.state desk.core desk.finish booth.node booth.finish stall) (into_iter_items c.into_iter-desk-iterator.result) _ _ (search rules) (search rules),
  search rules,
)

pub loop-desk-preserved : goal.loop-desk-preserved
loop-desk-preserved g c = (
  opens_next (λ desk booth stall. IsOpened g.C.Core.state desk.core desk.finish booth.node booth.finish stall) (into_iter_items c.into_iter-desk-iterator.result) _ _ c.loop-desk.booths.items _ c.loop-desk.base.items _ c.in-Some.desk
      c.in_ok-opened.opened.0 c.in_ok-opened.opened.1 c.in-Some.ensures.steps.0 (search rules) (search rules)
      (record { first = c.in_ok-opened.ensures.first; finish_is = c.in_ok-opened.ensures.finish; idle = c.in_ok-opened.ensures.idle; share = c.in_ok-opened.ensures.share }) c.loop-desk.invariant.0,
  (let long = c.loop-desk.invariant.1 in let one = c.in-Some.ensures.steps.1 in let items = ap length c.in-Some.ensures.steps.0 in omega (arith, long, one, items)),
)

pub returns : goal.returns
returns g c =
    let none : into_iter_items c.loop-desk.desk-iterator ≡ [] = nil_from_length (into_iter_items c.loop-desk.desk-iterator) (sym c.loop-desk.invariant.1 ∙ c.in-None.ensures.steps.0) in
    subst (λ l. Abreast (λ desk booth stall. IsOpened g.C.Core.state desk.core desk.finish booth.node booth.finish stall) l c.loop-desk.booths.items c.loop-desk.base.items) c.into_iter-desk-iterator.ensures.into_iter_gives.0
    (opens_end (λ desk booth stall. IsOpened g.C.Core.state desk.core desk.finish booth.node booth.finish stall) (into_iter_items c.into_iter-desk-iterator.result) _ c.loop-desk.booths.items c.loop-desk.base.items none
    c.loop-desk.invariant.0)
