use Rattle.std.proofs.Common.{◌≤◌, ◌<◌, ◌+◌, ℕ, get_or, Some}
use Rattle.ar_cert.specs.Changes.{Change}
use Rattle.ar_cert.specs.Judging.{IsAccepted}
use Rattle.ar_cert.proofs.judging.each_follows.Given as goal

-- each change before this one follows the one before it
abbrev pub invariant-loop-i : goal.invariant-loop-i
invariant-loop-i l = (1 ≤ l.i) × ((k : ℕ) (d : Change) → k + 1 < l.i → IsAccepted (Some (get_or l.chain k d).cert) (get_or l.chain (k + 1) d))
