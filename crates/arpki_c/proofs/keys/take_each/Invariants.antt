use Rattle.std.proofs.Common.{◌≡◌, drop}
use Rattle.arpki_c.specs.Given.{with_each}
use Rattle.arpki_c.proofs.keys.take_each.Given as goal

-- the entries that are left make of the directory what all make of the first
abbrev pub invariant-loop-entry : goal.invariant-loop-entry
invariant-loop-entry l = with_each l.directory (drop l.entry-index l.entries) ≡ with_each l.initial.directory l.entries
