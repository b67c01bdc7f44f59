use Rattle.std.proofs.Common.{rules, IfOk, get_or, sym, subst}
use Rattle.node_crowd.specs.Working.{HasWorked}
use Rattle.node_crowd.proofs.WorkingLemmas.{zip_places, zip_rows}
use Rattle.node_crowd.proofs.working.work_all.Goals as goal

pub returns : goal.returns
returns g c =
    zip_rows
    (λ task row. HasWorked (λ booth. booth.node) g.C.Core.next (λ booth. g.F.Finish.finished booth.finish) c.args.nodes.now.items task.row.stalls.items row.stalls.items task.errands.items)
    c.args.tasks.items c.in_ok-results.results.items c.in_ok-rows.rows.items c.in_ok-rows.ensures
    (zip_places
    (λ task result. IfOk result
    (λ row. HasWorked (λ booth. booth.node) g.C.Core.next (λ booth. g.F.Finish.finished booth.finish) c.args.nodes.now.items task.row.stalls.items row.stalls.items task.errands.items))
    c.args.tasks.items c.in_ok-results.results.items (search rules)
    (λ place task result lt.
    let gives = (c.in_ok-results.ensures.each place result lt).1 in
    subst
    (λ t. IfOk (get_or c.in_ok-results.results.items place result)
    (λ row. HasWorked (λ booth. booth.node) g.C.Core.next (λ booth. g.F.Finish.finished booth.finish) c.args.nodes.now.items t.row.stalls.items row.stalls.items t.errands.items))
    (sym (gives.job_is task)) gives.call.met))
