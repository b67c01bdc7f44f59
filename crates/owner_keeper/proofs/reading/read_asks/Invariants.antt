use Rattle.std.proofs.Common.{◌≡◌, ◌-◌}
use Rattle.std.specs.Int.{w16}
use Rattle.ar_bytes.specs.Ascending.{with_front}
use Rattle.ar_bytes.specs.Lists.{list_at}
use Rattle.ar_bytes.specs.Reading.{number_at}
use Rattle.owner_keeper.proofs.reading.read_asks.Given as goal

-- what was read, and what is read from here on, are what is read from the start
abbrev pub invariant-loop : goal.invariant-loop
invariant-loop l = with_front l.asks.items (list_at (number_at w16) (l.count - l.counter) l.fields) ≡ list_at (number_at w16) l.count l.initial.fields
