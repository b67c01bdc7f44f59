use Rattle.std.proofs.Common.{IfOk, subst}
use Rattle.node_crowd.specs.Working.{HasWorked}
use Rattle.node_crowd.proofs.working.fn.work_all.map_vec.Goals as goal

pub returns : goal.returns
returns g c =
    subst
    (λ booths. IfOk c.work.result
    (λ row. HasWorked (λ booth. booth.node) g.C.Core.next (λ booth. g.F.Finish.finished booth.finish) booths c.args.task.row.stalls.items row.stalls.items c.args.task.errands.items))
    c.as_slice.ensures.value c.work.ensures
