use Rattle.std.proofs.Common.{◌≡◌, ◌∙◌, ◌++◌, List, ap}
use Rattle.std.specs.Prelude.{flat_map}
use Rattle.ar_cert.specs.Changes.{Change}
use Rattle.party_keys.specs.Directory.{Directory}
use Rattle.party_keys.specs.Signers.{Claimed}
use Rattle.ar_claims.specs.Lists.{endorsements_in}
use Rattle.log_sending.specs.Signers.{signers}
use Rattle.log_core.specs.State.{CoreState}
use Rattle.log_sending.specs.Queued.{unqueued}
use Rattle.log_core.proofs.Unqueued.{once_signed}
use Rattle.log_core.proofs.log_core.LogCore.have_signed.Goals as goal

pub returns : goal.returns
returns c =
    let keys-are : c.directory.result.now ≡ c.args.self.now.keys = c.directory.ensures ∙ ap (λ (s : CoreState). s.keys) c.self.view_is in
    let queue-is : c.deref.result.now ≡ c.args.self.now.queue = c.deref.ensures.value ∙ ap (λ (s : CoreState). s.queue) c.self.view_is in
    let claims : List Claimed = c.args.front ++ flat_map endorsements_in (unqueued c.args.self.now.queue c.args.changes.now) in
    once_signed c.args.self.now c.args.front c.args.changes.now c.check.result c.told.ensures c.requires
    (c.check.ensures ∙ ap (λ (l : List Claimed). signers c.directory.result.now l)
    (c.in_ok-add_changes.ensures ∙ ap (λ (q : List Change). c.args.front ++ flat_map endorsements_in (unqueued q c.args.changes.now)) queue-is)
    ∙ ap (λ (k : Directory). signers k claims) keys-are)
