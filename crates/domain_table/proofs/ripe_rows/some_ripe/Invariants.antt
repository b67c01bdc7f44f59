use Rattle.std.proofs.Common.{◌≡◌}
use Rattle.domain_table.specs.Rows.{any_ripe, data_in}
use Rattle.domain_table.proofs.Ripening.{ripe_in}
use Rattle.domain_table.proofs.ripe_rows.some_ripe.Given as goal

-- what is left has what all have
abbrev pub invariant-loop-row : goal.invariant-loop-row
invariant-loop-row l = ripe_in l.epoch l.row-iterator ≡ any_ripe l.epoch (data_in l.rows.entries)
