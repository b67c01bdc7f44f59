use Rattle.std.proofs.Common.{ℕ, List}
use Rattle.lm_ots.specs.Ways.{AllLeadTo, FourLeadTo}
use Rattle.lm_ots.proofs.walk.take_turns.Given as goal

abbrev pub invariant-loop-turn : goal.invariant-loop-turn
invariant-loop-turn l = record {
  others : (end : ℕ → List ℕ) → AllLeadTo l.id l.leaf l.fn.chains end → FourLeadTo l.id l.leaf l.fn.four end → AllLeadTo l.id l.leaf l.chains end;
  four : (end : ℕ → List ℕ) → AllLeadTo l.id l.leaf l.fn.chains end → FourLeadTo l.id l.leaf l.fn.four end → FourLeadTo l.id l.leaf l.four end;
}
