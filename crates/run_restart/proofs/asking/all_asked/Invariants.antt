-- What it was asked so far, and the keys that it has then.
use Rattle.std.proofs.Common.{take}
use Rattle.run_restart.proofs.Inputs.{AskedSo}
use Rattle.run_restart.proofs.asking.all_asked.Given as goal

abbrev pub invariant-loop-event : goal.invariant-loop-event
invariant-loop-event l = AskedSo l.initial.ring.keys l.ring.keys (take l.event-index l.events) l.asked.items
