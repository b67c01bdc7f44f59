use Rattle.std.proofs.Common.{◌≡◌, ◌<◌, ◌≤◌, ℕ, [], slice_index_or}
use Rattle.lm_ots.specs.Ways.{end_of}
use Rattle.lm_ots.proofs.walk.finish.Given as goal

abbrev pub invariant-loop-i : goal.invariant-loop-i
invariant-loop-i l = record {
  done : (j : ℕ) → j < l.i → slice_index_or l.chains.values j [] ≡ end_of l.id l.leaf l.fn.chains j;
  rest : (j : ℕ) → l.i ≤ j → slice_index_or l.chains.values j [] ≡ slice_index_or l.fn.chains.values j [];
  next : l.chains.next ≡ l.fn.chains.next;
  ends : l.chains.ends ≡ l.fn.chains.ends;
}
