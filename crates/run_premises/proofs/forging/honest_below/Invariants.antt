-- So many are honest of those that were looked at.
use Rattle.std.proofs.Common.{◌≡◌, ◌≤◌}
use Rattle.ar_safety.specs.Held.{honest_below}
use Rattle.ar_statement.specs.Claims.{party}
use Rattle.run_premises.proofs.forging.honest_below.Given as goal

abbrev pub invariant-loop-other : goal.invariant-loop-other
invariant-loop-other l = (l.count ≡ honest_below (party l.role) l.dishonest l.other) × (l.count ≤ l.other)
