use Rattle.std.proofs.Common.{◌≡◌, ◌-◌}
use Rattle.arpki_ask.specs.Inquiries.{most_rolls, rolls_at}
use Rattle.arpki_ask.proofs.rolls.rolls.Given as goal

-- what is learnt from the lines from here on is what is learnt from all of them
abbrev pub invariant-loop : goal.invariant-loop
invariant-loop l = rolls_at (most_rolls - l.counter) l.directory l.lines ≡ rolls_at most_rolls l.initial.directory l.initial.lines
