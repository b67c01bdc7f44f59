use Rattle.std.proofs.Common.{◌≡◌, take}
use Rattle.epoch_log.specs.Telling.{statuses_in}
use Rattle.log_core.specs.Skipped.{signed_statuses}
use Rattle.log_core.proofs.skipping.signed_statuses.Given as goal

-- the statuses so far
abbrev pub invariant-loop-status : goal.invariant-loop-status
invariant-loop-status l = statuses_in l.list.items ≡ signed_statuses (take l.status-index l.statuses)
