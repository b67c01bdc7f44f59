-- The step is the row's: what was composed before it is sent, and the log is as the row leaves it.
use Rattle.std.proofs.Common.{◌≡◌, ◌++◌, Ok, inr, subst, sym}
use Rattle.epoch_log.specs.Calls.{after_state}
use Rattle.log_sending.specs.Closings.{closing_drafts}
use Rattle.log_core.specs.Passing.{passing_judged, passing_row, status_drafts}
use Rattle.log_sending.specs.Sending.{none_composed, with_drafts}
use Rattle.log_core.specs.State.{CoreState}
use Rattle.log_core.proofs.Closed.{passing-may, passing-refused, passing-step, stated-closing}
use Rattle.log_core.proofs.KeptRows.{kept-passing}
use Rattle.log_core.proofs.log_core.LogCore.pass.Goals as goal
use Rattle.log_core.proofs.Replies.{core-of, made}

pub returns-in-Err-clause-row : goal.returns-in-Err-clause-row
returns-in-Err-clause-row c = passing-refused c.args.self.now c.in-Err.refusal (inr (sym c.in-Err.ensures))

pub state-requires : goal.state-requires
state-requires c =
    let was : CoreState = record { log = c.self.inside.log.state; keys = c.self.inside.log.keys; queue = c.self.inside.queue.items; signature_len = c.self.inside.signature_len } in
    passing-may was (subst (λ (s : CoreState). passing_judged s ≡ Ok tt) (sym c.self.view_is) (sym c.in-Ok.ensures))

pub invariant_of-self : goal.invariant_of-self
invariant_of-self c =
    let was : CoreState = record { log = c.self.inside.log.state; keys = c.self.inside.log.keys; queue = c.self.inside.queue.items; signature_len = c.self.inside.signature_len } in
    let judged = subst (λ (s : CoreState). passing_judged s ≡ Ok tt) (sym c.self.view_is) (sym c.in-Ok.ensures) in
    let ready = subst (λ (s : CoreState). c.in_ok-ready.ready
    ≡ with_drafts none_composed (status_drafts s ++ closing_drafts (after_state s.log).1 s.signature_len s.log (after_state s.log).0)) (sym c.self.view_is) c.in_ok-ready.ensures in
    let step = passing-step was c.in_ok-ready.ready c.close.result c.state.new.self c.close.new.queue.items c.in-Ok-state.closing c.epoch-epoch.result
    judged ready (stated-closing was.log c.in-Ok-state.due c.in-Ok-state.closing c.in-Ok-state.ensures.answer) c.in-Ok-state.ensures.ok c.epoch-epoch.ensures c.close.ensures.queue c.close.ensures.sent in
    kept-passing was (record { unsigned = c.close.result; after = core-of was c.state.new.self c.close.new.queue.items }) c.self.invariant step

pub returns-in-Ok-state-clause-row : goal.returns-in-Ok-state-clause-row
returns-in-Ok-state-clause-row c =
    let was : CoreState = record { log = c.self.inside.log.state; keys = c.self.inside.log.keys; queue = c.self.inside.queue.items; signature_len = c.self.inside.signature_len } in
    let judged = subst (λ (s : CoreState). passing_judged s ≡ Ok tt) (sym c.self.view_is) (sym c.in-Ok.ensures) in
    let ready = subst (λ (s : CoreState). c.in_ok-ready.ready
    ≡ with_drafts none_composed (status_drafts s ++ closing_drafts (after_state s.log).1 s.signature_len s.log (after_state s.log).0)) (sym c.self.view_is) c.in_ok-ready.ensures in
    let step = passing-step was c.in_ok-ready.ready c.close.result c.state.new.self c.close.new.queue.items c.in-Ok-state.closing c.epoch-epoch.result
    judged ready (stated-closing was.log c.in-Ok-state.due c.in-Ok-state.closing c.in-Ok-state.ensures.answer) c.in-Ok-state.ensures.ok c.epoch-epoch.ensures c.close.ensures.queue c.close.ensures.sent in
    subst (λ (s : CoreState). passing_row s ≡ made c.close.result (core-of was c.state.new.self c.close.new.queue.items)) c.self.view_is step
