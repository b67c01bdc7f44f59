use Rattle.std.proofs.Common.{◌≡◌, take}
use Rattle.epoch_log.specs.State.{reports_of}
use Rattle.epoch_log.specs.Telling.{statuses_in}
use Rattle.epoch_log.proofs.skipping.unsigned.Given as goal

-- the statuses so far
abbrev pub invariant-loop-status : goal.invariant-loop-status
invariant-loop-status l = l.list.items ≡ reports_of (statuses_in (take l.status-index l.statuses))
