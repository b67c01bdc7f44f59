use Rattle.std.proofs.Common.{◌≡◌, take}
use Rattle.epoch_log.proofs.copying.counted_copies.Given as goal

-- the copies so far
abbrev pub invariant-loop-one : goal.invariant-loop-one
invariant-loop-one g l = l.list.items ≡ take l.one-index l.counted
