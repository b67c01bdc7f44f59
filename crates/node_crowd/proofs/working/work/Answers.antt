use Rattle.std.proofs.Common.{rules, ◌≡◌, ◌∙◌, ap, sym, subst}
use Rattle.node_crowd.specs.Stalls.{HasServed, IsIdle, share_at}
use Rattle.node_crowd.specs.Bringing.{brought_to}
use Rattle.node_crowd.specs.Working.{HasWorked}
use Rattle.node_crowd.proofs.AlongLemmas.{each_long, refilled, zip_long}
use Rattle.node_crowd.proofs.working.work.Goals as goal

pub returns : goal.returns
returns g c =
    let same : c.as_mut_slice.result.now ≡ c.args.task.row.stalls.items = search rules in
    let long = each_long (λ place booth stall. HasServed g.C.Core.next booth.node (g.F.Finish.finished booth.finish) stall (brought_to place c.args.task.errands.items)) 0 c.args.booths.now c.serve.new.row c.in_ok-serve.ensures.served
    ∙ sym (zip_long (λ booth stall. IsIdle booth.node stall) c.args.booths.now c.args.task.row.stalls.items c.requires.ready.idle) in
    subst (λ l. HasWorked (λ booth. booth.node) g.C.Core.next (λ booth. g.F.Finish.finished booth.finish) c.args.booths.now c.args.task.row.stalls.items l c.args.task.errands.items)
    (sym (refilled c.args.task.row.stalls.len c.args.task.row.stalls.items c.serve.new.row c.args.task.row.stalls.ok.0 long))
    (record { served = c.in_ok-serve.ensures.served; shares = λ place. c.in_ok-serve.ensures.shares place ∙ ap (λ l. share_at place l) same })
