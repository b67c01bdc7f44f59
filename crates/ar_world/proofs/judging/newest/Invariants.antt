use Rattle.std.proofs.Common.{◌≡◌, ◌+◌, ◌≤◌, length, drop, None}
use Rattle.ar_world.specs.Judging.{newest_from}
use Rattle.ar_world.proofs.judging.newest.Given as goal

-- from here on none goes to a client
abbrev pub invariant-loop-place : goal.invariant-loop-place
invariant-loop-place l = (l.place ≤ length l.messages) × (newest_from (l.place + 1) (drop l.place l.messages) ≡ None)

abbrev pub decreases-loop-place : goal.decreases-loop-place
decreases-loop-place l = l.place
