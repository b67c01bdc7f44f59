use Rattle.std.proofs.Common.{◌≡◌, ◌≤◌, ◌++◌, List, map, length, drop}
use Rattle.std.specs.FinMap.{entries}
use Rattle.hash_tree.specs.Entries.{Entry, entries_of}
use Rattle.domain_table.specs.Rows.{marks_listed, name_entry}
use Rattle.domain_table.proofs.listing.list_names.Given as goal

-- the entries from here on, in front of those that were there
abbrev pub invariant-loop-i : goal.invariant-loop-i
invariant-loop-i l =
    ((es : List Entry) → l.fn.list.entries ≡ entries (entries_of es) → l.list.entries ≡ entries (entries_of (map name_entry (marks_listed (drop l.i l.rows)) ++ es)))
    × (l.i ≤ length l.rows)

abbrev pub decreases-loop-i : goal.decreases-loop-i
decreases-loop-i l = l.i
