use Rattle.std.proofs.Common.{◌∙◌, ◌++◌, List, ap, subst}
use Rattle.std.specs.Prelude.{flat_map}
use Rattle.ar_base.specs.Gives.{GivesUnless}
use Rattle.ar_claims.specs.Lists.{endorsements_in, claimed_votes}
use Rattle.log_sending.specs.Signers.{signers}
use Rattle.log_sending.specs.declared.refusal.LogRefusal.TheVariants as refusals
use Rattle.party_keys.specs.Signers.{Claimed}
use Rattle.log_core.proofs.log_core.LogCore.have_signed_decision.Goals as goal

pub returns : goal.returns
returns c =
    subst (λ (l : List Claimed). GivesUnless refusals.Memory (λ unit. unit) c.have_signed.result (signers c.args.self.now.keys (l ++ flat_map endorsements_in c.args.changes.now)))
    (c.in_ok-add_votes.ensures ∙ ap (λ (l : List Claimed). l ++ claimed_votes c.args.epoch c.args.value.now c.args.votes.now) c.new-front.ensures)
    c.have_signed.ensures
