use Rattle.std.proofs.Common.{◌≡◌}
use Rattle.log_sending.proofs.queued.recall_queued.Given as goal

-- it says what it said
abbrev pub invariant-loop-other : goal.invariant-loop-other
invariant-loop-other l = l.change ≡ l.fn.change
