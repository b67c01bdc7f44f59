use Rattle.std.proofs.Common.{rules, ◌≡◌, ◌+◌, ◌++◌, ◌∙◌, ℕ, [], length, ap, append_assoc, arith, refl, sym, subst}
use Rattle.std.proofs.lemmas.List.{append-nil, nil_from_length}
use Rattle.std.specs.List.{AllByRecursion, AllZip}
use Rattle.std.specs.Vec.Iter.{into_iter_items}
use Rattle.ar_seats.specs.Totals.{total}
use Rattle.node_crowd.specs.Stalls.{IsStallOf, share_at}
use Rattle.node_crowd.specs.Working.{Gathers}
use Rattle.node_crowd.proofs.RowsLemmas.{gathers_next, gathers_shares, gathers_start}
use Rattle.node_crowd.proofs.StallsLemmas.{idle_own, joined_own}
use Rattle.node_crowd.proofs.gathering.gather.Goals as goal

pub loop-row-init : goal.loop-row-init
loop-row-init g c = (
  idle_own (λ booth. booth.node) c.args.booths.now c.args.base.now c.requires.base,
  subst (λ l. AllByRecursion (λ row. AllZip (λ booth stall. IsStallOf booth.node stall) c.args.booths.now row.stalls.items) l) (sym c.into_iter-row-iterator.ensures.into_iter_gives.0) c.requires.rows,
  gathers_start c.args.rows.items (λ booth. booth.node) (λ row. row.stalls.items) g.C.Core.next (λ booth. g.F.Finish.finished booth.finish) c.args.booths.now c.args.base.now c.requires.base,
  λ place. (omega arith),
  refl,
  search rules,
)

pub join_row-requires-clause-row : goal.join_row-requires-clause-row
join_row-requires-clause-row g c κs within =
    (subst (λ l. AllByRecursion (λ row. AllZip (λ booth stall. IsStallOf booth.node stall) c.args.booths.now row.stalls.items) l) c.in-Some.ensures.steps.0 c.loop-row.invariant.1).0

pub loop-row-preserved : goal.loop-row-preserved
loop-row-preserved g c = (
  joined_own (λ booth. booth.node) g.C.Core.next c.args.booths.now c.loop-row.base c.in-Some.row.stalls.items c.join_row.new.base c.in_ok-join_row.ensures,
  (subst (λ l. AllByRecursion (λ row. AllZip (λ booth stall. IsStallOf booth.node stall) c.args.booths.now row.stalls.items) l) c.in-Some.ensures.steps.0 c.loop-row.invariant.1).1,
  gathers_next (λ booth. booth.node) (λ row. row.stalls.items) g.C.Core.next (λ booth. g.F.Finish.finished booth.finish) c.args.booths.now c.loop-row.base c.join_row.new.base c.loop-row.yielded c.in-Some.row
      c.in_ok-join_row.ensures c.loop-row.invariant.2,
  gathers_shares (λ booth. booth.node) (λ row. row.stalls.items) g.C.Core.next c.args.booths.now c.args.base.now c.loop-row.base c.join_row.new.base c.loop-row.yielded c.in-Some.row c.in_ok-join_row.ensures
      c.loop-row.invariant.3,
  append_assoc c.loop-row.yielded _ _ ∙ ap (λ l. c.loop-row.yielded ++ l) (sym c.in-Some.ensures.steps.0) ∙ c.loop-row.invariant.4,
  (let long = c.loop-row.invariant.5 in let one = c.in-Some.ensures.steps.1 in let items = ap length c.in-Some.ensures.steps.0 in omega (arith, long, one, items)),
)

pub returns-clause-gathers : goal.returns-clause-gathers
returns-clause-gathers g c =
    let none : into_iter_items c.loop-row.row-iterator ≡ [] = nil_from_length (into_iter_items c.loop-row.row-iterator) (sym c.loop-row.invariant.5 ∙ c.in-None.ensures.steps.0) in
    let all : c.loop-row.yielded ≡ c.args.rows.items =
    sym (append-nil c.loop-row.yielded) ∙ ap (λ l. c.loop-row.yielded ++ l) (sym none) ∙ c.loop-row.invariant.4 ∙ c.into_iter-row-iterator.ensures.into_iter_gives.0 in
    subst (λ l. Gathers (λ booth. booth.node) g.C.Core.next (λ booth. g.F.Finish.finished booth.finish) (λ row. row.stalls.items) c.args.booths.now c.loop-row.base l) all c.loop-row.invariant.2

pub returns-clause-shares : goal.returns-clause-shares
returns-clause-shares g c =
    let none : into_iter_items c.loop-row.row-iterator ≡ [] = nil_from_length (into_iter_items c.loop-row.row-iterator) (sym c.loop-row.invariant.5 ∙ c.in-None.ensures.steps.0) in
    let all : c.loop-row.yielded ≡ c.args.rows.items =
    sym (append-nil c.loop-row.yielded) ∙ ap (λ l. c.loop-row.yielded ++ l) (sym none) ∙ c.loop-row.invariant.4 ∙ c.into_iter-row-iterator.ensures.into_iter_gives.0 in
    subst (λ l. (place : ℕ) → share_at place c.loop-row.base ≡ share_at place c.args.base.now + total (λ row. share_at place row.stalls.items) l) all c.loop-row.invariant.3
