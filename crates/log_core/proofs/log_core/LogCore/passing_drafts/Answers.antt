use Rattle.std.proofs.Common.{◌≡◌, ◌++◌, IfOk, subst, sym, ap, ◌∙◌}
use Rattle.epoch_log.specs.Calls.{after_state}
use Rattle.log_sending.specs.Closings.{closing_drafts}
use Rattle.log_core.specs.Passing.{status_drafts}
use Rattle.log_sending.specs.Sending.{Composed, none_composed, with_drafts}
use Rattle.log_core.specs.State.{CoreState}
use Rattle.log_sending.proofs.Sealing.{drafts-append}
use Rattle.log_sending.proofs.Sendable.{state-can, told-can}
use Rattle.log_core.proofs.log_core.LogCore.passing_drafts.Goals as goal

pub add_closing-requires : goal.add_closing-requires
add_closing-requires c =
    told-can c.self.inside.signature_len c.self.inside.log.state.council.logs (after_state c.self.inside.log.state) c.in_ok-foreseen.foreseen
    c.self.invariant.len c.self.invariant.sendable.logs (state-can c.self.inside.log.state c.self.invariant.sendable c.self.invariant.log) c.in_ok-foreseen.ensures

pub returns : goal.returns
returns c =
    let was : CoreState = record { log = c.self.inside.log.state; keys = c.self.inside.log.keys; queue = c.self.inside.queue.items; signature_len = c.self.inside.signature_len } in
    let after = after_state was.log in
    let closing = closing_drafts after.1 was.signature_len was.log after.0 in
    let status = subst (λ (s : CoreState). c.add_status_unless_counted.new.drafts ≡ with_drafts c.new-drafts.result (status_drafts s)) (sym c.self.view_is) c.in_ok-add_status_unless_counted.ensures in
    let all : c.add_closing.new.drafts ≡ with_drafts none_composed (status_drafts was ++ closing) =
    c.in_ok-add_closing.ensures after c.in_ok-foreseen.ensures
    ∙ ap (λ (d : Composed). with_drafts d closing) (status ∙ ap (λ (d : Composed). with_drafts d (status_drafts was)) c.new-drafts.ensures)
    ∙ sym (drafts-append none_composed (status_drafts was) closing) in
    subst (λ (s : CoreState). IfOk c.ready.result
    (λ ready. ready ≡ with_drafts none_composed (status_drafts s ++ closing_drafts (after_state s.log).1 s.signature_len s.log (after_state s.log).0))) c.self.view_is
    (subst (λ (d : Composed). IfOk c.ready.result (λ ready. ready ≡ d)) all c.ready.ensures)
