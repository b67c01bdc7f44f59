use Rattle.std.proofs.Common.{ap, subst, sym, ◌∙◌, Some}
use Rattle.epoch_log.specs.Calls.{with_report}
use Rattle.epoch_log.specs.Log.{LogParts, moved}
use Rattle.epoch_log.specs.Plans.{IsPlanIn}
use Rattle.epoch_log.specs.State.{LogState}
use Rattle.epoch_log.proofs.parts.Parts.status_seen.Goals as goal

pub finish-requires-clause-plan : goal.finish-requires-clause-plan
finish-requires-clause-plan c =
    subst (λ (s : LogState). IsPlanIn s c.in_ok-plan.plan)
    (sym (ap (λ (l : LogParts). l.state) (c.take_report.ensures.counted.parts
    ∙ ap (λ (l : LogParts). moved l (with_report l.state c.args.log c.args.value (Some c.from_vec-signature.result))) c.in_ok-reserve.ensures.same)))
    (c.in_ok-plan.ensures (Some c.from_vec-signature.result))
