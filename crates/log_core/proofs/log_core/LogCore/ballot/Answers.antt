-- The step is the row's: what was composed before it is sent, and the log is as the row leaves it.
use Rattle.std.proofs.Common.{◌≡◌, ◌⊎◌, List, ℕ, Ok, Err, subst, sym}
use Rattle.ar_cert.specs.Changes.{IsSignature}
use Rattle.epoch_log.specs.Calls.{after_ballot}
use Rattle.log_core.specs.Balloted.{ballot_judged, ballot_row}
use Rattle.log_sending.specs.Closings.{closing_drafts}
use Rattle.log_core.specs.Kept.{IsKeptCore}
use Rattle.log_sending.specs.Sending.{none_composed, with_drafts}
use Rattle.log_core.specs.State.{CoreState}
use Rattle.log_sending.specs.declared.refusal.LogRefusal.TheVariants as refusals
use Rattle.log_core.proofs.Closed.{ballot-member, ballot-refused, ballot-step}
use Rattle.log_core.proofs.KeptRows.{kept-ballot_row}
use Rattle.log_core.proofs.log_core.LogCore.ballot.Goals as goal
use Rattle.log_core.proofs.Replies.{core-of, made}

pub returns-in-Err : goal.returns-in-Err
returns-in-Err c =
    ballot-refused c.args.self.now c.args.log c.args.epoch c.args.value c.args.signature.now c.in-Err.refusal
    (subst (λ (signature : List ℕ). (c.in-Err.refusal ≡ refusals.Memory) ⊎ (ballot_judged c.args.self.now c.args.log c.args.epoch c.args.value signature ≡ Err c.in-Err.refusal))
    c.as_slice-signature.ensures.bytes c.in-Err.ensures)

pub ballot_drafts-requires-clause-log : goal.ballot_drafts-requires-clause-log
ballot_drafts-requires-clause-log c =
    ballot-member c.args.self.now c.args.log c.args.epoch c.args.value c.as_slice-signature.result.now (subst IsKeptCore c.self.view_is c.self.invariant) c.in-Ok.ensures

pub ballot-requires : goal.ballot-requires
ballot-requires c =
    let was : CoreState = record { log = c.self.inside.log.state; keys = c.self.inside.log.keys; queue = c.self.inside.queue.items; signature_len = c.self.inside.signature_len } in
    let signature : List ℕ = c.as_slice-signature.result.now in
    ballot-member was c.args.log c.args.epoch c.args.value signature c.self.invariant
    (subst (λ (s : CoreState). ballot_judged s c.args.log c.args.epoch c.args.value signature ≡ Ok tt) (sym c.self.view_is) c.in-Ok.ensures)

pub invariant_of-self : goal.invariant_of-self
invariant_of-self c =
    let was : CoreState = record { log = c.self.inside.log.state; keys = c.self.inside.log.keys; queue = c.self.inside.queue.items; signature_len = c.self.inside.signature_len } in
    let signature : List ℕ = c.as_slice-signature.result.now in
    let judged = subst (λ (s : CoreState). ballot_judged s c.args.log c.args.epoch c.args.value signature ≡ Ok tt) (sym c.self.view_is) c.in-Ok.ensures in
    let ready = subst (λ (s : CoreState). c.in_ok-ready.ready ≡ with_drafts none_composed (closing_drafts (after_ballot s.log c.args.log c.args.value signature).1 s.signature_len s.log (after_ballot s.log c.args.log c.args.value signature).0))
    (sym c.self.view_is) c.in_ok-ready.ensures in
    let step = ballot-step was c.args.log c.args.epoch c.args.value signature c.in_ok-ready.ready c.close.result c.ballot.new.self c.close.new.queue.items c.in-Ok-ballot.closing
    judged ready c.in-Ok-ballot.ensures.answer c.in-Ok-ballot.ensures.ok c.close.ensures.queue c.close.ensures.sent in
    kept-ballot_row was c.args.log c.args.epoch c.args.value signature (record { unsigned = c.close.result; after = core-of was c.ballot.new.self c.close.new.queue.items })
    c.self.invariant (subst IsSignature (sym c.as_slice-signature.ensures.bytes) c.as_slice-signature.ensures.few) step

pub returns-in-Ok-ballot : goal.returns-in-Ok-ballot
returns-in-Ok-ballot c =
    let was : CoreState = record { log = c.self.inside.log.state; keys = c.self.inside.log.keys; queue = c.self.inside.queue.items; signature_len = c.self.inside.signature_len } in
    let signature : List ℕ = c.as_slice-signature.result.now in
    let judged = subst (λ (s : CoreState). ballot_judged s c.args.log c.args.epoch c.args.value signature ≡ Ok tt) (sym c.self.view_is) c.in-Ok.ensures in
    let ready = subst (λ (s : CoreState). c.in_ok-ready.ready ≡ with_drafts none_composed (closing_drafts (after_ballot s.log c.args.log c.args.value signature).1 s.signature_len s.log (after_ballot s.log c.args.log c.args.value signature).0))
    (sym c.self.view_is) c.in_ok-ready.ensures in
    let step = ballot-step was c.args.log c.args.epoch c.args.value signature c.in_ok-ready.ready c.close.result c.ballot.new.self c.close.new.queue.items c.in-Ok-ballot.closing
    judged ready c.in-Ok-ballot.ensures.answer c.in-Ok-ballot.ensures.ok c.close.ensures.queue c.close.ensures.sent in
    subst (λ (s : CoreState). ballot_row s c.args.log c.args.epoch c.args.value c.args.signature.now ≡ made c.close.result (core-of was c.ballot.new.self c.close.new.queue.items)) c.self.view_is
    (subst (λ (signature : List ℕ). ballot_row was c.args.log c.args.epoch c.args.value signature ≡ made c.close.result (core-of was c.ballot.new.self c.close.new.queue.items))
    c.as_slice-signature.ensures.bytes step)
