use Rattle.std.proofs.Common.{◌≡◌, ◌++◌, take}
use Rattle.ar_bytes.specs.Ascending.{numbers_text}
use Rattle.owner_keeper.proofs.text.put_numbers.Given as goal

-- the numbers so far were appended
abbrev pub invariant-loop-number : goal.invariant-loop-number
invariant-loop-number l = l.body.items ≡ l.initial.body.items ++ numbers_text (take l.number-index l.numbers)
