use Rattle.std.proofs.Common.{◌≡◌, ◌*◌, ◌<◌, ℕ, [], slice_index_or}
use Rattle.lm_ots.specs.Signing.{secret_element}
use Rattle.lm_ots.proofs.values.put_beginnings.Given as goal

abbrev pub invariant-loop-group : goal.invariant-loop-group
invariant-loop-group l = (i : ℕ) → i < 4 * l.group → slice_index_or l.values i [] ≡ secret_element l.secret i
