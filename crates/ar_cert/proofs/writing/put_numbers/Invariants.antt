use Rattle.std.proofs.Common.{◌≡◌, ◌+◌, ◌*◌, ◌++◌, take}
use Rattle.ar_bytes.specs.Ascending.{numbers_text}
use Rattle.ar_cert.proofs.writing.put_numbers.Given as goal

-- the numbers so far were written, and end here
abbrev pub invariant-loop-number : goal.invariant-loop-number
invariant-loop-number l = (l.end ≡ l.place + 2 * l.number-index) × (take l.end l.out ≡ take l.place l.initial.out ++ numbers_text (take l.number-index l.numbers))
