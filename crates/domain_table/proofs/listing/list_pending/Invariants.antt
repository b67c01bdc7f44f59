use Rattle.std.proofs.Common.{◌≡◌, ◌≤◌, length, drop}
use Rattle.std.specs.List.{filter_map}
use Rattle.std.specs.FinMap.{entries}
use Rattle.hash_tree.specs.Entries.{entries_of}
use Rattle.domain_table.specs.Rows.{marks_listed, pending_entry}
use Rattle.domain_table.proofs.listing.list_pending.Given as goal

-- the entries from here on
abbrev pub invariant-loop-i : goal.invariant-loop-i
invariant-loop-i l = (l.list.entries ≡ entries (entries_of (filter_map pending_entry (marks_listed (drop l.i l.rows))))) × (l.i ≤ length l.rows)

abbrev pub decreases-loop-i : goal.decreases-loop-i
decreases-loop-i l = l.i
