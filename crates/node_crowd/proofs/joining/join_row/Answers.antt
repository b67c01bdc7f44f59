use Rattle.std.proofs.Common.{rules, ◌≡◌, ◌∙◌, [], length, ap, arith, refl, sym, subst}
use Rattle.std.proofs.lemmas.List.{nil_from_length}
use Rattle.std.specs.List.{AllZip}
use Rattle.node_crowd.specs.Along.{Along}
use Rattle.std.specs.Vec.Iter.{into_iter_items}
use Rattle.node_crowd.specs.Stalls.{IsJoined, IsStallOf}
use Rattle.node_crowd.proofs.AlongLemmas.{at_place, behind_place, joins_end, joins_next, zip_long, zip_yield}
use Rattle.node_crowd.proofs.joining.join_row.Goals as goal

pub loop-other-preserved : goal.loop-other-preserved
loop-other-preserved g c =
    let left = zip_yield (λ booth stall. IsStallOf booth.node stall) c.args.booths.now (into_iter_items c.loop-other.other-iterator) (into_iter_items c.next.new.self) c.loop-other.place c.index-booths-place.result c.in-Some.other
    c.in-Some.ensures.steps.0 c.loop-other.invariant.2 in (
      search rules,
      behind_place (λ booth stall. IsStallOf booth.node stall) c.args.booths.now c.loop-other.base _ c.loop-other.place c.index-booths-place.result c.index-base-place.result c.join.new.stall left.0 c.loop-other.invariant.0 refl
          c.loop-other.invariant.1,
      left.2,
      joins_next (λ booth old other new. IsJoined g.C.Core.next booth.node old other new) c.args.booths.now c.args.base.now c.loop-other.base _ _ _ _ c.loop-other.place c.index-booths-place.result c.index-base-place.result
          c.join.new.stall c.in-Some.other left.0 (search rules) refl c.in-Some.ensures.steps.0 c.in_ok-join.ensures c.loop-other.invariant.3,
      (let long = c.loop-other.invariant.4 in let one = c.in-Some.ensures.steps.1 in let items = ap length c.in-Some.ensures.steps.0 in omega (arith, long, one, items)),
    )

pub loop-other-init : goal.loop-other-init
loop-other-init g c = (
  zip_long (λ booth stall. IsStallOf booth.node stall) c.args.booths.now c.args.base.now c.requires.base,
  c.requires.base,
  subst (λ l. AllZip (λ booth stall. IsStallOf booth.node stall) c.args.booths.now l) (sym c.into_iter-other-iterator.ensures.into_iter_gives.0) c.requires.row,
  λ news along. along,
  search rules,
)

pub join-requires-clause-own : goal.join-requires-clause-own
join-requires-clause-own g c κs within =
    let left = zip_yield (λ booth stall. IsStallOf booth.node stall) c.args.booths.now (into_iter_items c.loop-other.other-iterator) (into_iter_items c.next.new.self) c.loop-other.place c.index-booths-place.result c.in-Some.other
    c.in-Some.ensures.steps.0 c.loop-other.invariant.2 in
    at_place (λ booth stall. IsStallOf booth.node stall) c.args.booths.now c.loop-other.base c.loop-other.place c.index-booths-place.result c.index-base-place.result left.0 c.loop-other.invariant.0 c.loop-other.invariant.1

pub join-requires-clause-other : goal.join-requires-clause-other
join-requires-clause-other g c κs within =
    let left = zip_yield (λ booth stall. IsStallOf booth.node stall) c.args.booths.now (into_iter_items c.loop-other.other-iterator) (into_iter_items c.next.new.self) c.loop-other.place c.index-booths-place.result c.in-Some.other
    c.in-Some.ensures.steps.0 c.loop-other.invariant.2 in
    left.1

pub returns : goal.returns
returns g c =
    let none : into_iter_items c.loop-other.other-iterator ≡ [] = nil_from_length (into_iter_items c.loop-other.other-iterator) (sym c.loop-other.invariant.4 ∙ c.in-None.ensures.steps.0) in
    subst (λ l. Along (λ booth old other new. IsJoined g.C.Core.next booth.node old other new) c.args.booths.now c.args.base.now l c.loop-other.base) c.into_iter-other-iterator.ensures.into_iter_gives.0
    (joins_end (λ booth old other new. IsJoined g.C.Core.next booth.node old other new) c.args.booths.now c.args.base.now c.loop-other.base _ _ c.loop-other.place (λ booth stall. IsStallOf booth.node stall) none
    c.loop-other.invariant.0 c.loop-other.invariant.2 c.loop-other.invariant.3)
