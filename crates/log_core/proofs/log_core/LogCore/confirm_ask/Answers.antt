use Rattle.std.proofs.Common.{◌≡◌, ◌∙◌, ap, Ok, Err, Result, subst, sym}
use Rattle.ar_message.specs.declared.unsigned.Unsigned.{Unsigned}
use Rattle.log_core.specs.Confirming.{ConfirmQuestion, confirm_row, confirmation_prepared}
use Rattle.log_core.specs.State.{CoreState}
use Rattle.log_core.specs.Steps.{IsStep}
use Rattle.log_sending.specs.declared.refusal.LogRefusal.{LogRefusal}
use Rattle.log_core.proofs.Confirmations.{confirm-keeps, confirm-made, confirm-refused, confirm-spent, has-newest}
use Rattle.log_core.proofs.Stepping.{core-with}
use Rattle.log_core.proofs.log_core.LogCore.confirm_ask.Goals as goal
use Rattle.log_core.proofs.log_core.LogCore.confirm_ask.Goals.{in-Ok-confirm, in-Err-confirm}

pub returns-in-Err : goal.returns-in-Err
returns-in-Err c =
    let asked : ConfirmQuestion = record { client = c.args.client; name = c.args.name.now; first = c.args.first; second = c.args.second } in
    confirm-refused c.args.self.now asked c.in-Err.refusal c.in-Err.ensures

pub confirm-requires : goal.confirm-requires
confirm-requires c =
    let was : CoreState = record { log = c.self.inside.log.state; keys = c.self.inside.log.keys; queue = c.self.inside.queue.items; signature_len = c.self.inside.signature_len } in
    let asked : ConfirmQuestion = record { client = c.args.client; name = c.args.name.now; first = c.args.first; second = c.args.second } in
    let prepared : confirmation_prepared was asked ≡ Ok c.in-Ok.ready = subst (λ (s : CoreState). confirmation_prepared s asked ≡ Ok c.in-Ok.ready) (sym c.self.view_is) c.in-Ok.ensures in
    has-newest was asked c.in-Ok.ready prepared

pub invariant_of-self : goal.invariant_of-self
invariant_of-self c =
    let was : CoreState = record { log = c.self.inside.log.state; keys = c.self.inside.log.keys; queue = c.self.inside.queue.items; signature_len = c.self.inside.signature_len } in
    let asked : ConfirmQuestion = record { client = c.args.client; name = c.args.name.now; first = c.args.first; second = c.args.second } in
    let prepared : confirmation_prepared was asked ≡ Ok c.in-Ok.ready = subst (λ (s : CoreState). confirmation_prepared s asked ≡ Ok c.in-Ok.ready) (sym c.self.view_is) c.in-Ok.ensures in
    confirm-keeps was asked c.in-Ok.ready c.confirm.result c.confirm.new.self c.self.invariant c.text-text.ensures.name prepared c.confirm.ensures.answer c.confirm.ensures.ok c.confirm.ensures.err

pub returns : goal.returns
returns c =
    let was : CoreState = record { log = c.self.inside.log.state; keys = c.self.inside.log.keys; queue = c.self.inside.queue.items; signature_len = c.self.inside.signature_len } in
    let asked : ConfirmQuestion = record { client = c.args.client; name = c.args.name.now; first = c.args.first; second = c.args.second } in
    let prepared : confirmation_prepared was asked ≡ Ok c.in-Ok.ready = subst (λ (s : CoreState). confirmation_prepared s asked ≡ Ok c.in-Ok.ready) (sym c.self.view_is) c.in-Ok.ensures in
    let step : IsStep c.match-confirm.result was (core-with was c.confirm.new.self) (confirm_row was asked) = elim c.match-confirm.branch [
      | in-Ok-confirm w ↦
          subst (λ (r : Result Unsigned LogRefusal). IsStep r was (core-with was c.confirm.new.self) (confirm_row was asked)) (sym w.result-is)
          (confirm-made was asked c.in-Ok.ready w.in-Ok-confirm.due c.confirm.new.self w.seal.result c.self.invariant prepared w.in-Ok-confirm.ensures.answer w.in-Ok-confirm.ensures.ok w.seal.ensures)
      | in-Err-confirm w ↦
          subst (λ (r : Result Unsigned LogRefusal). IsStep r was (core-with was c.confirm.new.self) (confirm_row was asked))
          (sym (w.result-is ∙ ap (λ (e : LogRefusal). let r : Result Unsigned LogRefusal = Err e in r) w.book_refusal.ensures))
          (confirm-spent was asked c.in-Ok.ready w.in-Err-confirm.fault c.confirm.new.self c.self.invariant prepared w.in-Err-confirm.ensures.answer w.in-Err-confirm.ensures.err)
    ] in
    rw (← c.self.view_is) step
