-- The record at the place is that of the log.
use Rattle.std.proofs.Common.{◌∙◌, ap}
use Rattle.ar_safety.specs.Held.{Held, honest_below}
use Rattle.ar_statement.specs.Claims.{log_party}
use Rattle.run_premises.proofs.Counting.{log-held}
use Rattle.run_premises.proofs.forging.log_holds.Goals as goal

pub returns-in-Some : goal.returns-in-Some
returns-in-Some c =
    let same = c.honest_below-place.ensures ∙ ap (λ dishonest. honest_below log_party dishonest c.args.number) (c.deref.ensures.value ∙ ap (λ (h : Held). h.dishonest) c.records.view_is) in
    log-held c.args.records.now.logs c.honest_below-place.result (honest_below log_party c.args.records.now.dishonest c.args.number) _ _ c.args.text.now c.holds.result
    same c.in-Some.ensures c.holds.ensures
