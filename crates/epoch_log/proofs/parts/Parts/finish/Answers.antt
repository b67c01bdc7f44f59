use Rattle.std.proofs.Common.{ap, sym, subst, ◌∙◌, ◌≡◌}
use Rattle.epoch_log.specs.Ending.{closed, skipped}
use Rattle.epoch_log.specs.Log.{moved, parts_of, state_in}
use Rattle.epoch_log.specs.Plans.{IsPlanIn}
use Rattle.epoch_log.specs.State.{LogState}
use Rattle.epoch_log.specs.declared.entries.Closing.{Closing}
use Rattle.epoch_log.specs.declared.entries.Closing.TheVariants as closings
use Rattle.epoch_log.proofs.Plans.{Decides, log-ended, log-passed, plan-decided, plan-open, plan-skipped}
use Rattle.epoch_log.proofs.parts.Parts.finish.Goals as goal

open-plan : (c : goal.In-Open) → closed (state_in c.args.self.now) ≡ (state_in c.args.self.now, closings.Open)
open-plan c = plan-open c.args.self.now (subst (IsPlanIn (state_in c.args.self.now)) c.in-Open.is c.requires.plan)

pub returns-in-Open-clause-answer : goal.returns-in-Open-clause-answer
returns-in-Open-clause-answer c = sym (ap (λ (x : LogState × Closing). x.1) (open-plan c))

pub returns-in-Open-clause-parts : goal.returns-in-Open-clause-parts
returns-in-Open-clause-parts c = ap (λ (x : LogState × Closing). moved (parts_of c.args.self.now) x.0) (sym (open-plan c))

pub finish_decided-requires-clause-none : goal.finish_decided-requires-clause-none
finish_decided-requires-clause-none c =
    (plan-decided c.args.self.now c.in-Decided.decision c.requires.kept (subst (IsPlanIn (state_in c.args.self.now)) c.in-Decided.is c.requires.plan)).none

pub finish_decided-requires-clause-votes : goal.finish_decided-requires-clause-votes
finish_decided-requires-clause-votes c =
    (plan-decided c.args.self.now c.in-Decided.decision c.requires.kept (subst (IsPlanIn (state_in c.args.self.now)) c.in-Decided.is c.requires.plan)).room

decides : (c : goal.After-finish_decided) → Decides c.args.self.now c.in-Decided.decision
decides c = plan-decided c.args.self.now c.in-Decided.decision c.requires.kept (subst (IsPlanIn (state_in c.args.self.now)) c.in-Decided.is c.requires.plan)

pub returns-in-Decided-clause-answer : goal.returns-in-Decided-clause-answer
returns-in-Decided-clause-answer c = sym (ap (λ (x : LogState × Closing). x.1) (decides c).ends)

pub returns-in-Decided-clause-parts : goal.returns-in-Decided-clause-parts
returns-in-Decided-clause-parts c =
    c.finish_decided.ensures.parts ∙ ap (λ (x : LogState × Closing). moved (parts_of c.args.self.now) x.0) (sym (decides c).ends)

pub returns-in-Decided-clause-kept : goal.returns-in-Decided-clause-kept
returns-in-Decided-clause-kept c =
    log-ended c.args.self.now c.finish_decided.new.self c.in-Decided.decision c.requires.kept (decides c) c.finish_decided.ensures.parts c.finish_decided.ensures.tables

skips : (c : goal.After-end_skipped)
    → closed (state_in c.args.self.now) ≡ (skipped (state_in c.args.self.now) c.in-Skipped.statuses.items, closings.Skipped c.args.self.now.statuses.items)
skips c = plan-skipped c.args.self.now c.in-Skipped.statuses (subst (IsPlanIn (state_in c.args.self.now)) c.in-Skipped.is c.requires.plan)

pub returns-in-Skipped-clause-answer : goal.returns-in-Skipped-clause-answer
returns-in-Skipped-clause-answer c = ap closings.Skipped c.end_skipped.ensures.counted ∙ sym (ap (λ (x : LogState × Closing). x.1) (skips c))

pub returns-in-Skipped-clause-parts : goal.returns-in-Skipped-clause-parts
returns-in-Skipped-clause-parts c =
    c.end_skipped.ensures.parts ∙ ap (λ (x : LogState × Closing). moved (parts_of c.args.self.now) x.0) (sym (skips c))

pub returns-in-Skipped-clause-kept : goal.returns-in-Skipped-clause-kept
returns-in-Skipped-clause-kept c =
    log-passed c.args.self.now c.end_skipped.new.self c.in-Skipped.statuses.items c.requires.kept (skips c) c.end_skipped.ensures.parts c.end_skipped.ensures.tables
