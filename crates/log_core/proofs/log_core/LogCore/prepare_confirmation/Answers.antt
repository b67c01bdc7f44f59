use Rattle.std.proofs.Common.{subst}
use Rattle.ar_message.specs.Lists.{AreVotes}
use Rattle.log_sending.specs.Sending.{sent_votes}
use Rattle.log_core.specs.State.{CoreState}
use Rattle.log_core.proofs.Confirmations.{its-votes}
use Rattle.log_core.proofs.log_core.LogCore.prepare_confirmation.Goals as goal

pub confirmed_draft-requires : goal.confirmed_draft-requires
confirmed_draft-requires c =
    let was : CoreState = record { log = c.self.inside.log.state; keys = c.self.inside.log.keys; queue = c.self.inside.queue.items; signature_len = c.self.inside.signature_len } in
    subst (λ (s : CoreState). AreVotes (sent_votes s.signature_len c.in_ok-newest.newest.now.votes)) c.self.view_is
    (its-votes was c.in_ok-newest.newest.now c.self.invariant c.in_ok-newest.ensures.ok)
