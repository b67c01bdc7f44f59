use Rattle.std.proofs.Common.{◌≡◌, ◌*◌, ◌≤◌}
use Rattle.std.specs.List.{sum_by, range_with_len}
use Rattle.lm_ots.specs.Digits.{gap}
use Rattle.lm_ots.proofs.digits.checksum.Given as goal

abbrev pub invariant-loop-i : goal.invariant-loop-i
invariant-loop-i l = record {
  sum : l.sum ≡ sum_by (gap l.fn.kind l.fn.hash) (range_with_len 0 l.i);
  bound : l.sum ≤ 255 * l.i;
}
