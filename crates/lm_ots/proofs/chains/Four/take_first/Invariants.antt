use Rattle.std.proofs.Common.{ℕ, List}
use Rattle.lm_ots.specs.Ways.{AllLeadTo, FourLeadTo}
use Rattle.lm_ots.proofs.chains.Four.take_first.Given as goal

abbrev pub invariant-loop-lane : goal.invariant-loop-lane
invariant-loop-lane l =
    (id : List ℕ) (leaf : ℕ) (end : ℕ → List ℕ) → AllLeadTo id leaf l.chains end → FourLeadTo id leaf l.fn.self end → FourLeadTo id leaf l.self end
