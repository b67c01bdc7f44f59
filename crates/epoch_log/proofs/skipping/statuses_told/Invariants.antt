use Rattle.std.proofs.Common.{take}
use Rattle.std.specs.Prelude.{All, IfSome}
use Rattle.ar_statement.specs.Ranges.{IsValue}
use Rattle.epoch_log.specs.State.{reports_of}
use Rattle.epoch_log.specs.Telling.{statuses_in}
use Rattle.epoch_log.proofs.skipping.statuses_told.Given as goal

-- the ballots that the statuses so far report are of digests
abbrev pub invariant-loop-status : goal.invariant-loop-status
invariant-loop-status l = All (λ s. IfSome s.1 IsValue) (reports_of (statuses_in (take l.status-index l.statuses)))
