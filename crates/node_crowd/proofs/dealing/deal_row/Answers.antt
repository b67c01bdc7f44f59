use Rattle.std.proofs.Common.{rules, ◌≤◌, ◌^◌, refl}
use Rattle.node_crowd.specs.Stalls.{IsIdle, IsSplit}
use Rattle.node_crowd.proofs.AlongLemmas.{at_place, behind_place, deals_end, deals_next, deals_start, left_behind, zip_long}
use Rattle.node_crowd.proofs.dealing.deal_row.Goals as goal

pub loop-place-init : goal.loop-place-init
loop-place-init g c = (
  zip_long (λ booth stall. IsIdle booth.node stall) c.args.booths.now c.args.base.now c.requires,
  c.requires,
  deals_start (λ booth old new given. IsSplit booth.node old new given) c.args.booths.now c.args.base.now c.new-stalls.result.items (search rules),
  λ wide. wide,
)

pub split-requires-clause-idle : goal.split-requires-clause-idle
split-requires-clause-idle g c κs within =
    at_place (λ booth stall. IsIdle booth.node stall) c.args.booths.now c.loop-place.base c.loop-place.place c.index-booths-place.result c.index-base-place.result c.loop-place-test.true c.loop-place.invariant.0
    c.loop-place.invariant.1

pub loop-place-preserved : goal.loop-place-preserved
loop-place-preserved g c = (
  search rules,
  behind_place (λ booth stall. IsIdle booth.node stall) c.args.booths.now c.loop-place.base _ c.loop-place.place c.index-booths-place.result c.index-base-place.result c.split.new.stall c.loop-place-test.true
      c.loop-place.invariant.0 refl c.loop-place.invariant.1,
  deals_next (λ booth old new given. IsSplit booth.node old new given) c.args.booths.now c.args.base.now c.loop-place.base _ c.loop-place.stalls.items _ c.loop-place.place c.index-booths-place.result c.index-base-place.result
      c.split.new.stall c.in_ok-given.given c.loop-place-test.true (search rules) refl (search rules) c.in_ok-given.ensures.split c.loop-place.invariant.2,
  λ wide. left_behind (λ stall. 2 ^ 1 ≤ stall.seat.share) c.loop-place.base _ c.loop-place.place c.index-base-place.result c.split.new.stall (search rules) refl (c.loop-place.invariant.3 wide),
)

pub returns-clause-split : goal.returns-clause-split
returns-clause-split g c =
    deals_end (λ booth old new given. IsSplit booth.node old new given) c.args.booths.now c.args.base.now c.loop-place.base c.loop-place.stalls.items c.loop-place.place (search rules) c.loop-place.invariant.0 c.loop-place.invariant.2
