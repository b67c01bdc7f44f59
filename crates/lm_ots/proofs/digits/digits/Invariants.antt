use Rattle.std.proofs.Common.{◌≡◌, ◌<◌, ℕ, length, slice_index}
use Rattle.lm_ots.specs.Digits.{digit}
use Rattle.lm_ots.proofs.digits.digits.Given as goal

abbrev pub invariant-loop-i : goal.invariant-loop-i
invariant-loop-i l = record {
  done : (k : ℕ) → k < l.i → slice_index l.digits k ≡ digit l.kind l.hash k;
  width : length l.digits ≡ 268;
}
