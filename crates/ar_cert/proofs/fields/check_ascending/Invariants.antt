use Rattle.std.proofs.Common.{◌≡◌, ℕ, ◌-◌, List}
use Rattle.ar_bytes.specs.Ascending.{numbers_at, with_front}
use Rattle.ar_cert.proofs.fields.check_ascending.Given as goal

-- the numbers that were read, and what is read from here on, are what is read from the start
abbrev pub invariant-loop : goal.invariant-loop
invariant-loop l = (front : List ℕ) × (with_front front (numbers_at (l.count - l.counter) l.least l.fields) ≡ numbers_at l.count 0 l.initial.fields)
