use Rattle.std.proofs.Common.{◌≡◌, ◌∙◌, ap, subst, sym}
use Rattle.std.specs.Prelude.{OnOk}
use Rattle.ar_council.specs.Council.{council_of}
use Rattle.ar_council.specs.Values.{vote_claim}
use Rattle.ar_message.specs.declared.address.Address.TheVariants.{One}
use Rattle.ar_message.specs.declared.message.Message.TheVariants.{Ballot}
use Rattle.ar_message.specs.Filling.{zeros}
use Rattle.ar_statement.specs.Claims.{claim_of, log_party, text_of}
use Rattle.epoch_log.specs.State.{epoch_of}
use Rattle.log_core.specs.Proposed.{ballot_draft}
use Rattle.log_core.specs.State.{CoreState}
use Rattle.log_sending.specs.Checks.{turn_of}
use Rattle.log_sending.specs.Sending.{DraftMessage, draft_with, with_draft}
use Rattle.log_core.proofs.log_core.LogCore.add_ballot.Goals as goal

pub returns : goal.returns
returns c =
    let was : CoreState = record { log = c.self.inside.log.state; keys = c.self.inside.log.keys; queue = c.self.inside.queue.items; signature_len = c.self.inside.signature_len } in
    let same : council_of c.directory.result.now ≡ was.log.council = ap council_of c.directory.ensures ∙ sym c.self.invariant.council in
    let now : c.epoch-epoch.result ≡ epoch_of was.log = c.epoch-epoch.ensures in
    let me : c.number-number.result ≡ was.log.me = c.number-number.ensures in
    let to : c.party.result ≡ log_party (turn_of was.log.council (epoch_of was.log)) =
    c.party.ensures ∙ ap log_party (c.turn_of-turn.ensures ∙ (λ i. turn_of (same i) (now i))) in
    let blank : c.in_ok-signature.signature ≡ zeros was.signature_len = c.in_ok-signature.ensures in
    let text : text_of (claim_of c.vote_statement.result) ≡ text_of (vote_claim was.log.me (epoch_of was.log) c.args.value.now) =
    ap text_of c.vote_statement.ensures ∙ (λ i. text_of (vote_claim (me i) (now i) c.args.value.now)) in
    subst (λ (s : CoreState). OnOk c.add.result (c.add.new.self ≡ with_draft c.args.drafts.now (ballot_draft s c.args.value.now))) c.self.view_is
    (subst (λ (d : DraftMessage). OnOk c.add.result (c.add.new.self ≡ with_draft c.args.drafts.now d))
    (λ i. draft_with (One (to i)) (Ballot (me i) (now i) c.args.value.now.base c.args.value.now.root (blank i)) was.signature_len 0 (text i))
    c.add.ensures)
