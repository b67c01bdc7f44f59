use Rattle.std.proofs.Common.{ℕ, List}
use Rattle.lm_ots.specs.Ways.{AllLeadTo, FourLeadTo}
use Rattle.lm_ots.proofs.chains.Four.refill.Given as goal

abbrev pub invariant-loop-lane : goal.invariant-loop-lane
invariant-loop-lane l = record {
  four : (id : List ℕ) (leaf : ℕ) (end : ℕ → List ℕ) → AllLeadTo id leaf l.fn.chains end → FourLeadTo id leaf l.fn.self end → FourLeadTo id leaf l.self end;
  others : (id : List ℕ) (leaf : ℕ) (end : ℕ → List ℕ) → AllLeadTo id leaf l.fn.chains end → FourLeadTo id leaf l.fn.self end → AllLeadTo id leaf l.chains end;
}
