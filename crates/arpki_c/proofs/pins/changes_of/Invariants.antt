use Rattle.std.proofs.Common.{◌≡◌, ◌-◌, []}
use Rattle.ar_bytes.specs.Reading.{start_of}
use Rattle.arpki_c.specs.Stored.{changes_behind, most_changes}
use Rattle.arpki_c.proofs.pins.changes_of.Given as goal

-- the changes that were read, and those from here to the end, are those from the start
abbrev pub invariant-loop : goal.invariant-loop
invariant-loop l =
    changes_behind l.fault (most_changes - l.counter) l.changes.items l.fields ≡ changes_behind l.fault most_changes [] (start_of l.bytes)
