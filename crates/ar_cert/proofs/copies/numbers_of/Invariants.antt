use Rattle.std.proofs.Common.{◌≡◌, ◌*◌, ◌++◌, drop}
use Rattle.ar_cert.specs.Lists.{numbers_in}
use Rattle.ar_cert.proofs.copies.numbers_of.Given as goal

-- the numbers so far, and those of the bytes that are left, are the numbers
abbrev pub invariant-loop-i : goal.invariant-loop-i
invariant-loop-i l = l.numbers.items ++ numbers_in (drop (2 * l.i) l.bytes) ≡ numbers_in l.bytes
