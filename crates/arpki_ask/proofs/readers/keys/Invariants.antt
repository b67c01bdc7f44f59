use Rattle.std.proofs.Common.{◌≡◌, ◌-◌, length}
use Rattle.arpki_ask.specs.Inquiries.{keys_at}
use Rattle.arpki_ask.proofs.KeyLines.{with_front}
use Rattle.arpki_ask.proofs.readers.keys.Given as goal

-- the keys that were read, and those that are read from here on, are those that are read from the start
abbrev pub invariant-loop : goal.invariant-loop
invariant-loop l = record {
  reads : with_front l.keys.items (keys_at (l.count - l.counter) l.lines) ≡ keys_at l.count l.initial.lines;
  len : length l.keys.items ≡ l.counter;
}
