use Rattle.std.proofs.Common.{◌≡◌, take}
use Rattle.epoch_log.specs.Calls.{statuses_seen}
use Rattle.epoch_log.specs.Telling.{statuses_in}
use Rattle.epoch_log.proofs.skipping.texts.Given as goal

-- the statuses so far
abbrev pub invariant-loop-status : goal.invariant-loop-status
invariant-loop-status l = l.list.items ≡ statuses_seen l.epoch (statuses_in (take l.status-index l.statuses))
