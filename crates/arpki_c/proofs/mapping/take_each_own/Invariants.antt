use Rattle.std.proofs.Common.{◌≡◌, drop}
use Rattle.arpki_c.specs.Mapped.{with_own_entries}
use Rattle.arpki_c.proofs.mapping.take_each_own.Given as goal

-- the entries that are left make of the directory what all make of the first
abbrev pub invariant-loop-entry : goal.invariant-loop-entry
invariant-loop-entry l =
    with_own_entries l.digest l.directory (drop l.entry-index l.entries) ≡ with_own_entries l.digest l.initial.directory l.entries
