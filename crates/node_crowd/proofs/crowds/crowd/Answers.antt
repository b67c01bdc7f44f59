use Rattle.std.proofs.Common.{rules, ℕ, ◌<◌, ◌∙◌, map, sym, subst}
use Rattle.std.specs.List.{AllByRecursion, range_with_len}
use Rattle.node_crowd.specs.Bringing.{brought_to, own_of}
use Rattle.node_crowd.proofs.CrowdLemmas.{kept_finish, opened_fits, opened_idle, opened_long, opened_share, opened_wide, orders_each, taken_each, wholes}
use Rattle.node_crowd.proofs.crowds.crowd.Goals as goal

pub gathered-requires-clause-fits : goal.gathered-requires-clause-fits
gathered-requires-clause-fits g c κs within =
    opened_fits g.C.Core.state (λ desk. desk.core) (λ desk. desk.finish) (λ booth. booth.node) (λ booth. booth.finish) g.F.Finish.fits c.args.desks.items c.in_ok-opened.opened.0.items c.in_ok-opened.opened.1.items
    c.in_ok-opened.ensures c.requires.fits

pub gathered-requires-clause-idle : goal.gathered-requires-clause-idle
gathered-requires-clause-idle g c κs within =
    opened_idle g.C.Core.state (λ desk. desk.core) (λ desk. desk.finish) (λ booth. booth.node) (λ booth. booth.finish) c.args.desks.items c.in_ok-opened.opened.0.items c.in_ok-opened.opened.1.items c.in_ok-opened.ensures

pub gathered-requires-clause-there : goal.gathered-requires-clause-there
gathered-requires-clause-there g c κs within =
    subst (λ n. AllByRecursion (λ errand. errand.place < n) c.args.errands.items)
    (sym (opened_long g.C.Core.state (λ desk. desk.core) (λ desk. desk.finish) (λ booth. booth.node) (λ booth. booth.finish) c.args.desks.items c.in_ok-opened.opened.0.items c.in_ok-opened.opened.1.items c.in_ok-opened.ensures))
    c.requires.there

pub close_all-requires-clause-gathered : goal.close_all-requires-clause-gathered
close_all-requires-clause-gathered g c κs within =
    let lists : ℕ → _ = λ place. map (λ worker. brought_to place (own_of c.args.workers worker c.args.errands.items)) (range_with_len 0 c.args.workers) in
    wholes (λ booth. booth.node) g.C.Core.next (λ booth. g.F.Finish.finished booth.finish) 0 lists c.in_ok-opened.opened.0.items c.in_ok-made.made.items c.in_ok-made.ensures.gathers
    (λ place lt. c.in_ok-made.ensures.shares place
    ∙ opened_share g.C.Core.state (λ desk. desk.core) (λ desk. desk.finish) (λ booth. booth.node) (λ booth. booth.finish) c.args.desks.items c.in_ok-opened.opened.0.items c.in_ok-opened.opened.1.items place c.in_ok-opened.ensures lt)

pub returns-clause-finish : goal.returns-clause-finish
returns-clause-finish g c =
    kept_finish g.C.Core.state (λ desk. desk.core) (λ desk. desk.finish) (λ booth. booth.node) (λ booth. booth.finish) g.C.Core.next g.C.Core.legal g.F.Finish.finished (λ taken. taken.history.items)
    (λ taken. g.C.Core.state taken.core) (λ taken. taken.replies.items) (λ taken. taken.finish) c.args.desks.items c.in_ok-opened.opened.0.items c.in_ok-opened.opened.1.items c.in_ok-made.made.items c.in_ok-all.all.items
    c.in_ok-opened.ensures c.in_ok-all.ensures

pub returns-clause-taken : goal.returns-clause-taken
returns-clause-taken g c =
    let lists : ℕ → _ = λ place. map (λ worker. brought_to place (own_of c.args.workers worker c.args.errands.items)) (range_with_len 0 c.args.workers) in
    taken_each g.C.Core.state (λ desk. desk.core) (λ desk. desk.finish) (λ booth. booth.node) (λ booth. booth.finish) g.C.Core.next g.C.Core.legal g.F.Finish.finished (λ taken. taken.history.items)
    (λ taken. g.C.Core.state taken.core) (λ taken. taken.replies.items) (λ taken. taken.finish) 0 lists c.args.desks.items c.in_ok-opened.opened.0.items c.in_ok-opened.opened.1.items c.in_ok-made.made.items c.in_ok-all.all.items
    c.in_ok-opened.ensures c.in_ok-all.ensures
    c.in_ok-made.ensures.gathers

pub returns-clause-orders : goal.returns-clause-orders
returns-clause-orders g c = λ number numbered.
    let lists : ℕ → _ = λ place. map (λ worker. brought_to place (own_of c.args.workers worker c.args.errands.items)) (range_with_len 0 c.args.workers) in
    orders_each g.C.Core.state (λ desk. desk.core) (λ desk. desk.finish) g.C.Core.next g.C.Core.legal g.F.Finish.finished (λ taken. taken.history.items)
    (λ taken. g.C.Core.state taken.core) (λ taken. taken.replies.items) number c.args.workers c.args.errands.items 0 c.args.desks.items c.in_ok-all.all.items numbered
    (taken_each g.C.Core.state (λ desk. desk.core) (λ desk. desk.finish) (λ booth. booth.node) (λ booth. booth.finish) g.C.Core.next g.C.Core.legal g.F.Finish.finished (λ taken. taken.history.items)
    (λ taken. g.C.Core.state taken.core) (λ taken. taken.replies.items) (λ taken. taken.finish) 0 lists c.args.desks.items c.in_ok-opened.opened.0.items c.in_ok-opened.opened.1.items c.in_ok-made.made.items c.in_ok-all.all.items
    c.in_ok-opened.ensures c.in_ok-all.ensures
    c.in_ok-made.ensures.gathers)

pub returns-in_err-made-clause-narrow : goal.returns-in_err-made-clause-narrow
returns-in_err-made-clause-narrow g c = λ le.
    let memory = c.in_err-made.ensures.narrow
    (opened_wide g.C.Core.state (λ desk. desk.core) (λ desk. desk.finish) (λ booth. booth.node) (λ booth. booth.finish) c.args.workers le c.args.desks.items c.in_ok-opened.opened.0.items c.in_ok-opened.opened.1.items
    c.in_ok-opened.ensures) in
    search rules
