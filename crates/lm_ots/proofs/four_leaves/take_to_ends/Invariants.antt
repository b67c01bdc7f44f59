use Rattle.std.proofs.Common.{◌≡◌, ◌<◌, ℕ, [], slice_index_or}
use Rattle.lm_ots.specs.Signing.{secret_behind, value_after}
use Rattle.lm_ots.proofs.four_leaves.take_to_ends.Given as goal

abbrev pub invariant-loop-step : goal.invariant-loop-step
invariant-loop-step l = (k : ℕ) → k < 4 → slice_index_or l.four k [] ≡ value_after (secret_behind l.secret k) l.step l.i
