use Rattle.std.proofs.Common.{rules, sym, subst, get_or}
use Rattle.serve_run.specs.Workers.{MayTell}
use Rattle.serve_run.proofs.Bringing.{told_each, zip_places}
use Rattle.serve_run.proofs.serving.all_told.Goals as goal

pub returns : goal.returns
returns g c =
    let each = zip_places (MayTell c.args.service.now c.args.workers) c.args.posts.items c.in_ok-results.results.items (search rules)
    (λ place post result lt.
    let gives = (c.in_ok-results.ensures.each place result lt).1 in
    let told : MayTell c.args.service.now c.args.workers gives.job (get_or c.in_ok-results.results.items place result) = search (rules, gives.call.met) in
    subst (λ p. MayTell c.args.service.now c.args.workers p (get_or c.in_ok-results.results.items place result)) (sym (gives.job_is post)) told) in
    told_each (λ all. all.items) c.args.service.now c.args.workers c.args.posts.items c.in_ok-results.results.items _ each c.each_told.ensures
