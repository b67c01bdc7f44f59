use Rattle.std.proofs.Common.{◌≡◌, take}
use Rattle.epoch_log.specs.State.{reports_of}
use Rattle.log_core.specs.Skipped.{signed_statuses}
use Rattle.log_core.proofs.skipping.reports_of.Given as goal

-- the statuses so far
abbrev pub invariant-loop-status : goal.invariant-loop-status
invariant-loop-status l = l.list.items ≡ reports_of (signed_statuses (take l.status-index l.statuses))
