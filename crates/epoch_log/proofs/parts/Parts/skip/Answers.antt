use Rattle.std.proofs.Common.{ap, subst, List, ◌∙◌}
use Rattle.std.specs.Prelude.{All, IfSome}
use Rattle.ar_statement.specs.Ranges.{IsValue}
use Rattle.vote_quorum.specs.Statuses.{Status}
use Rattle.epoch_log.specs.Calls.{SignedStatus, after_skip}
use Rattle.epoch_log.specs.State.{reports_of}
use Rattle.epoch_log.specs.Log.{moved, parts_of, state_in}
use Rattle.epoch_log.specs.Telling.{statuses_in}
use Rattle.epoch_log.proofs.Heard.{log-skip}
use Rattle.epoch_log.proofs.parts.Parts.skip.Goals as goal

pub returns-in-Ok-clause-kept : goal.returns-in-Ok-clause-kept
returns-in-Ok-clause-kept c =
    log-skip c.args.self.now c.skip_by.new.self (statuses_in c.args.statuses.items)
    (c.in-Ok.ensures.ok ∙ ap (λ (l : List SignedStatus). moved (parts_of c.args.self.now) (after_skip (state_in c.args.self.now) l)) (ap statuses_in c.deref-2.ensures.value))
    c.in-Ok.ensures.tables c.requires.kept c.requires.may
    (subst (λ (l : List SignedStatus). All (λ (s : Status). IfSome s.1 IsValue) (reports_of l)) (ap statuses_in c.deref.ensures.value) c.statuses_told.ensures)
