-- The record at the place is that of the authority.
use Rattle.std.proofs.Common.{◌∙◌, ap}
use Rattle.ar_safety.specs.Held.{Held, honest_below}
use Rattle.ar_statement.specs.Claims.{authority_party}
use Rattle.run_premises.specs.Books.{holds}
use Rattle.run_premises.proofs.Counting.{authority-held}
use Rattle.run_premises.proofs.forging.authority_holds.Goals as goal

pub returns-in-Some : goal.returns-in-Some
returns-in-Some c =
    let same = c.honest_below-place.ensures ∙ ap (λ dishonest. honest_below authority_party dishonest c.args.number) (c.deref.ensures.value ∙ ap (λ (h : Held). h.dishonest) c.records.view_is) in
    authority-held c.args.records.now.authorities c.honest_below-place.result (honest_below authority_party c.args.records.now.dishonest c.args.number) _ _ c.args.text.now c.holds.result
    same c.in-Some.ensures (c.holds.ensures ∙ ap (λ b. holds b c.args.text.now) c.signed.ensures)
