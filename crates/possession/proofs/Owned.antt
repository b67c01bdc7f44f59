-- The certificate that is accepted is of the name that was asked for.
use Rattle.std.proofs.Common.{◌≡◌, ℕ, List, sym, ◌∙◌, subst}
use Rattle.ar_cert.specs.Certificate.{Certificate}
use Rattle.client_rule.specs.Meaning.{IsShown}
use Rattle.client_rule.specs.Rule.{judgement, Asked}
use Rattle.client_rule.specs.declared.judgement.Judgement.TheVariants.{Accepted}
use Rattle.client_rule.proofs.Meanings.{accepted}

pub name_of_accepted : (asked : Asked) (bytes : List ℕ) (certificate : Certificate) (digest : List ℕ) (epoch : ℕ) (root : List ℕ) → Accepted certificate digest epoch root ≡ judgement asked bytes → certificate.name ≡ asked.name
name_of_accepted asked bytes certificate digest epoch root h =
    let facts = (accepted asked bytes certificate digest epoch root).0 (sym h) in
    let c = facts.confirmation in
    let shown = subst (λ b. IsShown c.about b c.steps) facts.body facts.passes.holds.1.1.1.1.1.0 in
    shown.0 ∙ facts.passes.holds.0
