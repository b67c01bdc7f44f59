use Rattle.std.proofs.Common.{◌≤◌, ◌-◌, length}
use Rattle.domain_table.specs.Rows.{IsRipeUpTo, data_in}
use Rattle.domain_table.proofs.ripe_rows.ripen_rows.Given as goal

-- up to here nothing is ripe any longer
abbrev pub invariant-loop-i : goal.invariant-loop-i
invariant-loop-i l = IsRipeUpTo l.epoch (data_in l.fn.rows.entries) l.rows.entries l.trie l.still l.i × (l.i ≤ length (data_in l.fn.rows.entries))

abbrev pub decreases-loop-i : goal.decreases-loop-i
decreases-loop-i l = length (data_in l.fn.rows.entries) - l.i
