use Rattle.std.proofs.Common.{◌≡◌, ◌++◌, map}
use Rattle.log_sending.proofs.sending.add_places.Given as goal

abbrev pub invariant-loop-own : goal.invariant-loop-own
invariant-loop-own l = l.places.items ≡ l.initial.places.items ++ map (λ place. (l.message, place)) l.yielded
