use Rattle.std.proofs.Common.{ap, length, subst, sym, ◌∙◌, List, None}
use Rattle.vote_quorum.specs.Statuses.{AreStatuses}
use Rattle.epoch_log.specs.Calls.{with_status}
use Rattle.epoch_log.specs.Log.{state_in}
use Rattle.epoch_log.specs.State.{CountedStatus, reports_of}
use Rattle.epoch_log.proofs.Called.{kept-with_report}
use Rattle.epoch_log.proofs.parts.Parts.verdict_with_status.Goals as goal

pub verdict-requires-clause-statuses : goal.verdict-requires-clause-statuses
verdict-requires-clause-statuses c =
    subst (AreStatuses (length c.args.self.now.directory.logs))
    (sym (c.deref-4.ensures.value ∙ c.in_ok-reports.ensures None ∙ ap (λ (l : List CountedStatus). reports_of (with_status l (c.args.log, c.args.value.now, None))) c.deref-2.ensures.value))
    (kept-with_report (state_in c.args.self.now) c.args.log c.args.value.now None c.requires.kept.kept c.requires.log c.requires.value).statuses.of_logs
