use Rattle.std.proofs.Common.{◌≡◌, ◌∙◌, ◌+◌, ap, subst, sym}
use Rattle.std.specs.Prelude.{OnOk}
use Rattle.ar_council.specs.Council.{council_of}
use Rattle.ar_message.specs.declared.address.Address.TheVariants.{One}
use Rattle.ar_message.specs.declared.message.Message.TheVariants.{StatusNote}
use Rattle.ar_message.specs.Filling.{zeros}
use Rattle.ar_statement.specs.Claims.{claim_of, log_party, text_of}
use Rattle.epoch_log.specs.Calls.{own_status_text, own_value}
use Rattle.epoch_log.specs.State.{epoch_of}
use Rattle.log_core.specs.Passing.{status_draft}
use Rattle.log_core.specs.State.{CoreState}
use Rattle.log_sending.specs.Checks.{turn_of}
use Rattle.log_sending.specs.Sending.{DraftMessage, draft_with, with_draft}
use Rattle.log_core.proofs.log_core.LogCore.add_status.Goals as goal

pub returns : goal.returns
returns c =
    let was : CoreState = record { log = c.self.inside.log.state; keys = c.self.inside.log.keys; queue = c.self.inside.queue.items; signature_len = c.self.inside.signature_len } in
    let same : council_of c.directory.result.now ≡ was.log.council = ap council_of c.directory.ensures ∙ sym c.self.invariant.council in
    let now : c.epoch.result ≡ epoch_of was.log = c.epoch.ensures in
    let to : c.party.result ≡ log_party (turn_of was.log.council (epoch_of was.log + 1)) =
    c.party.ensures ∙ ap log_party (c.turn_of-next.ensures ∙ (λ i. turn_of (same i) (now i + 1))) in
    let me : c.number.result ≡ was.log.me = c.number.ensures in
    let epoch : c.epoch-2.result ≡ epoch_of was.log = c.epoch-2.ensures in
    let value : c.own_value.result ≡ own_value was.log = c.own_value.ensures in
    let blank : c.in_ok-zeros.field-0 ≡ zeros was.signature_len = c.in_ok-zeros.ensures in
    let text : text_of (claim_of c.own_status.result) ≡ own_status_text was.log = c.own_status.ensures in
    subst (λ (s : CoreState). OnOk c.add.result (c.add.new.self ≡ with_draft c.args.drafts.now (status_draft s))) c.self.view_is
    (subst (λ (d : DraftMessage). OnOk c.add.result (c.add.new.self ≡ with_draft c.args.drafts.now d))
    (λ i. draft_with (One (to i)) (StatusNote (me i) (epoch i) (value i) (blank i)) was.signature_len 0 (text i))
    c.add.ensures)
