-- With the numbers of the calls that are left they are those of all.
use Rattle.std.proofs.Common.{◌≡◌, ◌++◌, drop, map}
use Rattle.burst_run.proofs.settling.order_of.Given as goal

abbrev pub invariant-loop-call : goal.invariant-loop-call
invariant-loop-call l = l.taken.items ++ map (λ call. call.0.j) (drop l.call-index l.history) ≡ map (λ call. call.0.j) l.history
