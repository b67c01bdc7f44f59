use Rattle.std.proofs.Common.{◌≡◌, ◌∙◌, ap, subst}
use Rattle.std.specs.Prelude.{IfOk}
use Rattle.ar_message.specs.declared.address.Address.TheVariants.{Logs}
use Rattle.ar_message.specs.declared.message.Message.TheVariants.{RollNote}
use Rattle.ar_message.specs.Filling.{zeros}
use Rattle.ar_statement.specs.Claims.{log_party, roll, text_of}
use Rattle.lms_tree.specs.PublicKey.{key_text}
use Rattle.lms_tree.specs.declared.public_key.LmsPublic.{LmsPublic}
use Rattle.epoch_log.specs.Record.{LogRecord}
use Rattle.log_core.specs.Rolling.{roll_draft}
use Rattle.log_core.specs.State.{CoreState}
use Rattle.log_sending.specs.Sending.{Composed, draft_with, none_composed, with_draft}
use Rattle.log_core.proofs.log_core.LogCore.roll_drafts.Goals as goal

pub returns : goal.returns
returns c =
    let was : CoreState = record { log = c.self.inside.log.state; keys = c.self.inside.log.keys; queue = c.self.inside.queue.items; signature_len = c.self.inside.signature_len } in
    let next : LmsPublic = c.args.next.now in
    let signer : c.party-party.result ≡ log_party was.log.me = c.party-party.ensures ∙ ap log_party c.number.ensures in
    let newest : c.generation-generation.result ≡ was.log.past.signed.newest = c.generation-generation.ensures ∙ ap (λ (r : LogRecord). r.signed.newest) c.record.ensures in
    let key : c.bytes.result ≡ key_text next = c.bytes.ensures in
    let blank : c.in_ok-zeros.field-0 ≡ zeros was.signature_len = c.in_ok-zeros.ensures in
    let none : c.new-drafts.result ≡ none_composed = c.new-drafts.ensures in
    subst (λ (s : CoreState). IfOk c.ready.result (λ ready. ready ≡ with_draft none_composed (roll_draft s next))) c.self.view_is
    (subst (λ (d : Composed). IfOk c.ready.result (λ ready. ready ≡ d))
    (c.in_ok-add.ensures
    ∙ (λ i. with_draft (none i) (draft_with Logs (RollNote (signer i) (newest i) next (blank i)) was.signature_len 0 (text_of (roll (signer i) (newest i) (key i))))))
    c.ready.ensures)
