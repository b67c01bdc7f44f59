use Rattle.std.proofs.Common.{ap, subst, sym, ◌∙◌, Some}
use Rattle.epoch_log.specs.Calls.{log_with_ballot}
use Rattle.epoch_log.specs.Log.{LogParts, moved}
use Rattle.epoch_log.specs.Plans.{IsPlanIn}
use Rattle.epoch_log.specs.State.{LogState}
use Rattle.epoch_log.proofs.parts.Parts.ballot.Goals as goal

pub finish-requires-clause-plan : goal.finish-requires-clause-plan
finish-requires-clause-plan c =
    subst (λ (s : LogState). IsPlanIn s c.in_ok-plan.plan)
    (sym (ap (λ (l : LogParts). l.state) (c.take_ballot.ensures.counted.parts
    ∙ ap (λ (l : LogParts). moved l (log_with_ballot l.state c.args.log c.args.value (Some c.from_vec-signature.result))) c.in_ok-reserve.ensures.same)))
    (c.in_ok-plan.ensures (Some c.from_vec-signature.result))
