-- What has been appended so far are the lines of the numbers so far.
use Rattle.std.proofs.Common.{Ok, ◌-◌}
use Rattle.std.specs.List.{flat_map, range_with_len}
use Rattle.ar_base.specs.Appending.{Appends}
use Rattle.script_make.specs.Rows.{row_text}
use Rattle.script_make.proofs.rows.put_rows.Given as goal

abbrev pub invariant-loop-i : goal.invariant-loop-i
invariant-loop-i l = Appends (flat_map (row_text l.row) (range_with_len l.fn.span.first (l.i - l.fn.span.first))) l.initial.out l.out (Ok tt)
