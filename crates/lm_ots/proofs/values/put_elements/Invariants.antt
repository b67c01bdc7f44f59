use Rattle.std.proofs.Common.{◌≡◌, ◌<◌, ℕ, [], length, slice_index_or}
use Rattle.lm_ots.specs.Candidate.{element}
use Rattle.lm_ots.proofs.values.put_elements.Given as goal

abbrev pub invariant-loop-i : goal.invariant-loop-i
invariant-loop-i l = record {
  done : (k : ℕ) → k < l.i → slice_index_or l.values k [] ≡ element l.signature k;
  width : length l.values ≡ 268;
}
