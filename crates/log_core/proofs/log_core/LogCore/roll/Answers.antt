use Rattle.std.proofs.Common.{◌≡◌, ◌∙◌, ap, Err, None, Result, subst, sym}
use Rattle.ar_message.specs.declared.unsigned.Unsigned.{Unsigned}
use Rattle.lms_tree.specs.declared.public_key.LmsPublic.{LmsPublic}
use Rattle.log_core.specs.Rolling.{roll_draft, rolling_row}
use Rattle.log_sending.specs.Sending.{Composed, none_composed, sealed, with_draft}
use Rattle.log_core.specs.State.{CoreState}
use Rattle.log_core.specs.Steps.{IsStep}
use Rattle.log_sending.specs.declared.refusal.LogRefusal.{LogRefusal}
use Rattle.log_core.proofs.Stepping.{core-with, roll-keeps, roll-sends, roll-step}
use Rattle.log_core.proofs.log_core.LogCore.roll.Goals as goal
use Rattle.log_core.proofs.log_core.LogCore.roll.Goals.{in-Ok, in-Err}

pub invariant_of-self : goal.invariant_of-self
invariant_of-self c =
    let was : CoreState = record { log = c.self.inside.log.state; keys = c.self.inside.log.keys; queue = c.self.inside.queue.items; signature_len = c.self.inside.signature_len } in
    roll-keeps was c.args.next.now c.roll.result c.roll.new.self c.self.invariant c.key_told.ensures.text c.key_told.ensures.widths c.roll.ensures.answer c.roll.ensures.ok c.roll.ensures.err

pub returns : goal.returns
returns c =
    let was : CoreState = record { log = c.self.inside.log.state; keys = c.self.inside.log.keys; queue = c.self.inside.queue.items; signature_len = c.self.inside.signature_len } in
    let next : LmsPublic = c.args.next.now in
    let ready : c.in_ok-ready.ready ≡ with_draft none_composed (roll_draft was next) =
    subst (λ (s : CoreState). c.in_ok-ready.ready ≡ with_draft none_composed (roll_draft s next)) (sym c.self.view_is) c.in_ok-ready.ensures in
    let is-step : IsStep c.match-roll.result was (core-with was c.roll.new.self) (rolling_row was next) = elim c.match-roll.branch [
      | in-Ok w ↦
          subst (λ (r : Result Unsigned LogRefusal). IsStep r was (core-with was c.roll.new.self) (rolling_row was next)) (sym w.result-is)
          (roll-sends was next w.in-Ok.due c.roll.new.self w.seal.result w.in-Ok.ensures.answer w.in-Ok.ensures.ok
          (w.seal.ensures ∙ ap (λ (d : Composed). sealed c.roll.new.self.state.past.signed d None) ready))
      | in-Err w ↦
          subst (λ (r : Result Unsigned LogRefusal). IsStep r was (core-with was c.roll.new.self) (rolling_row was next))
          (sym (w.result-is ∙ ap (λ (e : LogRefusal). let r : Result Unsigned LogRefusal = Err e in r) w.roll_refusal.ensures))
          (roll-step was next w.in-Err.fault c.roll.new.self w.in-Err.ensures.answer w.in-Err.ensures.err)
    ] in
    rw (← c.self.view_is) is-step
