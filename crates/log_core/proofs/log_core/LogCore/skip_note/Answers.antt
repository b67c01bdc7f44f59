use Rattle.std.proofs.Common.{◌≡◌, Ok, List, ap, ◌∙◌, subst, sym}
use Rattle.ar_message.specs.Lists as lists
use Rattle.ar_message.specs.declared.lists.LogStatus.{LogStatus}
use Rattle.epoch_log.specs.Telling.{statuses_in}
use Rattle.epoch_log.specs.Calls.{CanSkip}
use Rattle.log_core.specs.Skipped.{signed_statuses, skip_judged}
use Rattle.log_core.specs.State.{CoreState}
use Rattle.log_core.proofs.Skips.{can-skip, skip-done, skip-keeps, skip-refused}
use Rattle.log_core.proofs.log_core.LogCore.skip_note.Goals as goal

pub returns-in-Err : goal.returns-in-Err
returns-in-Err c = skip-refused c.args.self.now c.args.epoch c.args.statuses.now c.in-Err.refusal c.in-Err.ensures

pub skip-requires : goal.skip-requires
skip-requires c =
    let was : CoreState = record { log = c.self.inside.log.state; keys = c.self.inside.log.keys; queue = c.self.inside.queue.items; signature_len = c.self.inside.signature_len } in
    let statuses : List LogStatus = c.args.statuses.now in
    let judged : skip_judged was c.args.epoch statuses ≡ Ok tt = subst (λ (s : CoreState). skip_judged s c.args.epoch statuses ≡ Ok tt) (sym c.self.view_is) c.in-Ok.ensures in
    let are : lists.AreLogStatuses statuses = subst lists.AreLogStatuses c.statuses.view_is c.statuses.invariant in
    let same : statuses_in c.in_ok-signed.signed.items ≡ signed_statuses statuses = c.in_ok-signed.ensures ∙ ap signed_statuses (c.as_slice.ensures.value ∙ c.statuses.view_is) in
    subst (CanSkip was.log) (sym same) (can-skip was c.args.epoch statuses c.self.invariant are judged)

pub invariant_of-self-2 : goal.invariant_of-self-2
invariant_of-self-2 c =
    let was : CoreState = record { log = c.self.inside.log.state; keys = c.self.inside.log.keys; queue = c.self.inside.queue.items; signature_len = c.self.inside.signature_len } in
    let statuses : List LogStatus = c.args.statuses.now in
    let judged : skip_judged was c.args.epoch statuses ≡ Ok tt = subst (λ (s : CoreState). skip_judged s c.args.epoch statuses ≡ Ok tt) (sym c.self.view_is) c.in-Ok.ensures in
    let are : lists.AreLogStatuses statuses = subst lists.AreLogStatuses c.statuses.view_is c.statuses.invariant in
    let same : statuses_in c.in_ok-signed.signed.items ≡ signed_statuses statuses = c.in_ok-signed.ensures ∙ ap signed_statuses (c.as_slice.ensures.value ∙ c.statuses.view_is) in
    skip-keeps was c.args.epoch statuses (statuses_in c.in_ok-signed.signed.items) c.skip.new.self c.self.invariant are judged same c.in_ok-skip.ensures.ok

pub returns : goal.returns
returns c =
    let was : CoreState = record { log = c.self.inside.log.state; keys = c.self.inside.log.keys; queue = c.self.inside.queue.items; signature_len = c.self.inside.signature_len } in
    let statuses : List LogStatus = c.args.statuses.now in
    let judged : skip_judged was c.args.epoch statuses ≡ Ok tt = subst (λ (s : CoreState). skip_judged s c.args.epoch statuses ≡ Ok tt) (sym c.self.view_is) c.in-Ok.ensures in
    let same : statuses_in c.in_ok-signed.signed.items ≡ signed_statuses statuses = c.in_ok-signed.ensures ∙ ap signed_statuses (c.as_slice.ensures.value ∙ c.statuses.view_is) in
    let step = skip-done was c.args.epoch statuses (statuses_in c.in_ok-signed.signed.items) c.ended_epoch-skipped.result c.ended.result c.skip.new.self judged same
    c.ended_epoch-skipped.ensures c.ended.ensures c.in_ok-skip.ensures.ok in
    rw (← c.self.view_is) step
