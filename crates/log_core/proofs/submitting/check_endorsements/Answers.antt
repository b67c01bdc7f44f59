use Rattle.std.proofs.Common.{◌≡◌, ◌∙◌, ◌++◌, List, Ok, Err, Result, ap, sym, inr}
use Rattle.ar_base.specs.Gives.{GivesUnless}
use Rattle.ar_claims.specs.Lists.{endorsements_in}
use Rattle.log_sending.specs.Signers.{signers}
use Rattle.log_sending.specs.declared.refusal.LogRefusal.{LogRefusal}
use Rattle.log_sending.specs.declared.refusal.LogRefusal.TheVariants as refusals
use Rattle.party_keys.specs.Signers.{Claimed}
use Rattle.log_core.proofs.submitting.check_endorsements.Goals as goal

answers : (r expected : Result (Unit {0}) LogRefusal) → r ≡ expected → GivesUnless refusals.Memory (λ u. u) r expected
answers (Ok u) expected is = sym is
answers (Err e) expected is = inr (sym is)

pub returns : goal.returns
returns c =
    answers c.check.result (signers c.args.directory.now (endorsements_in c.args.change.now))
    (c.check.ensures ∙ ap (signers c.args.directory.now)
    (c.in_ok-add_endorsements.ensures ∙ ap (λ (l : List Claimed). l ++ endorsements_in c.args.change.now) c.new-signers.ensures))
