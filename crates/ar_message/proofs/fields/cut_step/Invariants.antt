-- The place of the first step that does not fit stays the same over the loop.
use Rattle.std.proofs.Common.{◌≡◌, ◌+◌, ◌*◌, ◌/◌, length}
use Rattle.ar_message.proofs.fields.cut_step.Given as goal

abbrev pub invariant-loop : goal.invariant-loop
invariant-loop l =
    l.fields.place + 32 * (length l.fields.ahead / 32) ≡ l.initial.fields.place + 32 * (length l.initial.fields.ahead / 32)

abbrev pub decreases-loop : goal.decreases-loop
decreases-loop l = length l.fields.ahead
