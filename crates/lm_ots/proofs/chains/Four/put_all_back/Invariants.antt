use Rattle.std.proofs.Common.{ℕ, List}
use Rattle.lm_ots.specs.Ways.{AllLeadTo, FourLeadTo}
use Rattle.lm_ots.proofs.chains.Four.put_all_back.Given as goal

abbrev pub invariant-loop-lane : goal.invariant-loop-lane
invariant-loop-lane l =
    (id : List ℕ) (leaf : ℕ) (end : ℕ → List ℕ) → AllLeadTo id leaf l.fn.chains end → FourLeadTo id leaf l.self end → AllLeadTo id leaf l.chains end
