use Rattle.std.proofs.Common.{◌≡◌, ◌<◌, ◌++◌, take, drop}
use Rattle.std.specs.Int.{w16, w32, to_be_bytes}
use Rattle.lm_ots.specs.Chain.{chain}
use Rattle.lm_ots.proofs.chain.chain.Given as goal

abbrev pub invariant-loop-step : goal.invariant-loop-step
invariant-loop-step l = record {
  head : take 22 l.text ≡ l.id ++ (to_be_bytes w32 l.leaf ++ to_be_bytes w16 l.index);
  value : drop 23 l.text ≡ chain l.id l.leaf l.index l.from l.step l.fn.value;
  still : l.to < l.from → l.step ≡ l.from;
}
