use Rattle.std.proofs.Common.{◌≡◌, All}
use Rattle.ar_message.specs.Filling.{IsBlank, lengths, signed}
use Rattle.ar_message.proofs.filling.fill.Given as goal

abbrev pub invariant-loop-blank : goal.invariant-loop-blank
invariant-loop-blank l =
    (All (IsBlank l.ring.keys (lengths l.messages.items)) l.blanks.items)
    × (signed l.ring.keys l.blanks.items l.messages.items ≡ signed l.ring.keys l.initial.blanks.items l.initial.messages.items)

abbrev pub decreases-loop-blank : goal.decreases-loop-blank
decreases-loop-blank l = goal.left-loop-blank l
