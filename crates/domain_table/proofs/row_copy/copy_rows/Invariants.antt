use Rattle.std.proofs.Common.{◌≡◌, ◌++◌}
use Rattle.domain_table.specs.Rows.{rows_in}
use Rattle.domain_table.proofs.row_copy.copy_rows.Given as goal

-- the rows so far, and those that are left
abbrev pub invariant-loop-name : goal.invariant-loop-name
invariant-loop-name l = rows_in l.copies.entries ++ rows_in l.name-iterator ≡ rows_in l.rows.entries
