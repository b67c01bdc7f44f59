use Rattle.std.proofs.Common.{◌≡◌, take}
use Rattle.client_memory.proofs.pin.copy_changes.Given as goal

-- the changes so far
abbrev pub invariant-loop-change : goal.invariant-loop-change
invariant-loop-change l = l.copies.items ≡ take l.change-index l.changes
