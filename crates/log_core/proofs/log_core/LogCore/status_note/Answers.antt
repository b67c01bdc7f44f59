-- The step is the row's: what was composed before it is sent, and the log is as the row leaves it.
use Rattle.std.proofs.Common.{◌≡◌, ◌⊎◌, List, ℕ, Some, Ok, Err, subst, sym}
use Rattle.ar_cert.specs.Changes.{IsSignature}
use Rattle.epoch_log.specs.Calls.{after_status_seen}
use Rattle.log_core.specs.Stated.{status_judged, status_row}
use Rattle.log_sending.specs.Closings.{closing_drafts}
use Rattle.log_core.specs.Kept.{IsKeptCore}
use Rattle.log_sending.specs.Sending.{none_composed, with_drafts}
use Rattle.log_core.specs.State.{CoreState}
use Rattle.log_sending.specs.declared.refusal.LogRefusal.TheVariants as refusals
use Rattle.log_core.proofs.Closed.{status-member, status-refused, status-step}
use Rattle.log_core.proofs.KeptRows.{kept-status_row}
use Rattle.log_core.proofs.log_core.LogCore.status_note.Goals as goal
use Rattle.log_core.proofs.Replies.{core-of, made}

pub returns-in-Err : goal.returns-in-Err
returns-in-Err c =
    status-refused c.args.self.now c.args.log c.args.epoch c.args.value c.args.signature.now c.in-Err.refusal
    (subst (λ (signature : List ℕ). (c.in-Err.refusal ≡ refusals.Memory) ⊎ (status_judged c.args.self.now c.args.log c.args.epoch c.args.value signature ≡ Err c.in-Err.refusal))
    c.as_slice-signature.ensures.bytes c.in-Err.ensures)

pub status_drafts-requires-clause-log : goal.status_drafts-requires-clause-log
status_drafts-requires-clause-log c =
    status-member c.args.self.now c.args.log c.args.epoch c.args.value c.as_slice-signature.result.now (subst IsKeptCore c.self.view_is c.self.invariant) c.in-Ok.ensures

pub status_seen-requires : goal.status_seen-requires
status_seen-requires c =
    let was : CoreState = record { log = c.self.inside.log.state; keys = c.self.inside.log.keys; queue = c.self.inside.queue.items; signature_len = c.self.inside.signature_len } in
    let signature : List ℕ = c.as_slice-signature.result.now in
    status-member was c.args.log c.args.epoch c.args.value signature c.self.invariant
    (subst (λ (s : CoreState). status_judged s c.args.log c.args.epoch c.args.value signature ≡ Ok tt) (sym c.self.view_is) c.in-Ok.ensures)

pub invariant_of-self : goal.invariant_of-self
invariant_of-self c =
    let was : CoreState = record { log = c.self.inside.log.state; keys = c.self.inside.log.keys; queue = c.self.inside.queue.items; signature_len = c.self.inside.signature_len } in
    let signature : List ℕ = c.as_slice-signature.result.now in
    let judged = subst (λ (s : CoreState). status_judged s c.args.log c.args.epoch c.args.value signature ≡ Ok tt) (sym c.self.view_is) c.in-Ok.ensures in
    let ready = subst (λ (s : CoreState). c.in_ok-ready.ready ≡ with_drafts none_composed (closing_drafts (after_status_seen s.log c.args.log c.args.value (Some signature)).1 s.signature_len s.log (after_status_seen s.log c.args.log c.args.value (Some signature)).0))
    (sym c.self.view_is) c.in_ok-ready.ensures in
    let step = status-step was c.args.log c.args.epoch c.args.value signature c.in_ok-ready.ready c.close.result c.status_seen.new.self c.close.new.queue.items c.in-Ok-status_seen.closing
    judged ready c.in-Ok-status_seen.ensures.answer c.in-Ok-status_seen.ensures.ok c.close.ensures.queue c.close.ensures.sent in
    kept-status_row was c.args.log c.args.epoch c.args.value signature (record { unsigned = c.close.result; after = core-of was c.status_seen.new.self c.close.new.queue.items })
    c.self.invariant c.optional_value_told.ensures (subst IsSignature (sym c.as_slice-signature.ensures.bytes) c.as_slice-signature.ensures.few) step

pub returns-in-Ok-status_seen : goal.returns-in-Ok-status_seen
returns-in-Ok-status_seen c =
    let was : CoreState = record { log = c.self.inside.log.state; keys = c.self.inside.log.keys; queue = c.self.inside.queue.items; signature_len = c.self.inside.signature_len } in
    let signature : List ℕ = c.as_slice-signature.result.now in
    let judged = subst (λ (s : CoreState). status_judged s c.args.log c.args.epoch c.args.value signature ≡ Ok tt) (sym c.self.view_is) c.in-Ok.ensures in
    let ready = subst (λ (s : CoreState). c.in_ok-ready.ready ≡ with_drafts none_composed (closing_drafts (after_status_seen s.log c.args.log c.args.value (Some signature)).1 s.signature_len s.log (after_status_seen s.log c.args.log c.args.value (Some signature)).0))
    (sym c.self.view_is) c.in_ok-ready.ensures in
    let step = status-step was c.args.log c.args.epoch c.args.value signature c.in_ok-ready.ready c.close.result c.status_seen.new.self c.close.new.queue.items c.in-Ok-status_seen.closing
    judged ready c.in-Ok-status_seen.ensures.answer c.in-Ok-status_seen.ensures.ok c.close.ensures.queue c.close.ensures.sent in
    subst (λ (s : CoreState). status_row s c.args.log c.args.epoch c.args.value c.args.signature.now ≡ made c.close.result (core-of was c.status_seen.new.self c.close.new.queue.items)) c.self.view_is
    (subst (λ (signature : List ℕ). status_row was c.args.log c.args.epoch c.args.value signature ≡ made c.close.result (core-of was c.status_seen.new.self c.close.new.queue.items))
    c.as_slice-signature.ensures.bytes step)
