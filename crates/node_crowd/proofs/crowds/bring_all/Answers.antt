use Rattle.std.proofs.Common.{◌∙◌, ap, arith, length, sym, subst}
use Rattle.std.proofs.lemmas.List.{length-map}
use Rattle.std.proofs.lemmas.List.FromFn.{length-range_with_len}
use Rattle.std.specs.List.{AllByRecursion, AllZip, range_with_len}
use Rattle.node_crowd.specs.Bringing.{own_of}
use Rattle.node_crowd.specs.Stalls.{IsIdle, IsStallOf}
use Rattle.node_crowd.specs.Working.{Gathers}
use Rattle.node_crowd.proofs.CrowdLemmas.{gathered_all, tasks_ready, worked_own, worked_shares}
use Rattle.node_crowd.proofs.crowds.bring_all.Goals as goal

pub deal-requires-clause-idle : goal.deal-requires-clause-idle
deal-requires-clause-idle g c κs within = subst (λ l. AllZip (λ booth stall. IsIdle booth.node stall) l c.args.base.now) (sym c.as_slice-booths.ensures.value) c.requires.idle

pub tasks_of-requires-clause-many : goal.tasks_of-requires-clause-many
tasks_of-requires-clause-many g c κs within =
    let same = ap length c.in_ok-lists.ensures in
    let lists = length-map c.in_ok-lists.lists.items (λ list. list.items) in
    let owns = length-map (range_with_len 0 c.args.workers) (λ worker. own_of c.args.workers worker c.args.errands.items) in
    let many = length-range_with_len 0 c.args.workers in
    let rows = c.in_ok-rows.ensures.many in
    omega (arith, same, lists, owns, many, rows)

pub work_all-requires-clause-ready : goal.work_all-requires-clause-ready
work_all-requires-clause-ready g c κs within =
    tasks_ready (λ booth. booth.node) (λ row. row.stalls.items) (λ task. task.row.stalls.items) (λ task. task.errands.items) c.args.workers c.args.nodes.now.items c.args.errands.items c.in_ok-rows.rows.items
    c.in_ok-tasks.tasks.items
    (subst (λ l. AllByRecursion (λ row. AllZip (λ booth stall. IsIdle booth.node stall) l row.stalls.items) c.in_ok-rows.rows.items) c.as_slice-booths.ensures.value c.in_ok-rows.ensures.rows)
    c.requires.there c.in_ok-tasks.ensures.rows (range_with_len 0 c.args.workers) (c.in_ok-tasks.ensures.lists ∙ c.in_ok-lists.ensures)

pub gather-requires-clause-base : goal.gather-requires-clause-base
gather-requires-clause-base g c κs within = c.in_ok-rows.ensures.base

pub gather-requires-clause-rows : goal.gather-requires-clause-rows
gather-requires-clause-rows g c κs within =
    subst (λ l. AllByRecursion (λ row. AllZip (λ booth stall. IsStallOf booth.node stall) l row.stalls.items) c.in_ok-worked.worked.items) (sym c.as_slice-booths.ensures.value)
    (worked_own (λ booth. booth.node) g.C.Core.next (λ booth. g.F.Finish.finished booth.finish) (λ row. row.stalls.items) (λ task. task.row.stalls.items) (λ task. task.errands.items) c.args.nodes.now.items
    c.in_ok-tasks.tasks.items c.in_ok-worked.worked.items c.in_ok-worked.ensures)

pub returns-clause-own : goal.returns-clause-own
returns-clause-own g c = subst (λ l. AllZip (λ booth stall. IsStallOf booth.node stall) l c.gather.new.base) c.as_slice-booths.ensures.value c.in_ok-gather.ensures.own

pub returns-clause-gathers : goal.returns-clause-gathers
returns-clause-gathers g c =
    gathered_all (λ booth. booth.node) g.C.Core.next (λ booth. g.F.Finish.finished booth.finish) (λ row. row.stalls.items) (λ task. task.row.stalls.items) (λ task. task.errands.items) c.args.workers c.args.errands.items
    c.args.nodes.now.items c.gather.new.base c.in_ok-tasks.tasks.items c.in_ok-worked.worked.items c.in_ok-worked.ensures (c.in_ok-tasks.ensures.lists ∙ c.in_ok-lists.ensures)
    (subst (λ l. Gathers (λ booth. booth.node) g.C.Core.next (λ booth. g.F.Finish.finished booth.finish) (λ row. row.stalls.items) l c.gather.new.base c.in_ok-worked.worked.items) c.as_slice-booths.ensures.value
    c.in_ok-gather.ensures.gathers)

pub returns-clause-shares : goal.returns-clause-shares
returns-clause-shares g c = λ place.
    let joined = c.in_ok-gather.ensures.shares place in
    let kept = worked_shares (λ booth. booth.node) g.C.Core.next (λ booth. g.F.Finish.finished booth.finish) (λ row. row.stalls.items) (λ task. task.row.stalls.items) (λ task. task.errands.items) c.args.nodes.now.items
    c.in_ok-tasks.tasks.items c.in_ok-worked.worked.items c.in_ok-rows.rows.items place c.in_ok-worked.ensures c.in_ok-tasks.ensures.rows in
    let dealt = c.in_ok-rows.ensures.shares place in
    omega (arith, joined, kept, dealt)
