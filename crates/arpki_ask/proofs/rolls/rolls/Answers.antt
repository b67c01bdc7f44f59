use Rattle.std.proofs.Common.{rules, ◌≡◌, true, codes}
use Rattle.ar_lines.specs.Rows.{is_next}
use Rattle.arpki_ask.specs.Inquiries.{most_rolls}
use Rattle.arpki_ask.proofs.RollLines.{roll_gives_up}
use Rattle.arpki_ask.proofs.rolls.rolls.Goals as goal

pub returns-in_err-directory : goal.returns-in_err-directory
returns-in_err-directory c =
    let is : is_next (codes "roll") c.loop.lines ≡ true = search rules in
    let fails = roll_gives_up most_rolls c.loop.counter c.loop.directory c.loop.lines c.in_err-directory.field-0.0 _ c.loop-test.true is c.in_err-directory.ensures c.loop.invariant in
    search (rules, fails)
