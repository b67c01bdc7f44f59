use Rattle.std.proofs.Common.{ℕ, List}
use Rattle.lm_ots.specs.Ways.{FourLeadTo}
use Rattle.lm_ots.proofs.walk.advance.Given as goal

abbrev pub invariant-loop-step : goal.invariant-loop-step
invariant-loop-step l = (end : ℕ → List ℕ) → FourLeadTo l.id l.leaf l.fn.four end → FourLeadTo l.id l.leaf l.four end
