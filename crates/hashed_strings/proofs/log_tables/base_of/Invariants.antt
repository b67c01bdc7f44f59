-- The table is the base of each epoch so far.
use Rattle.std.proofs.Common.{◌≡◌}
use Rattle.epoch_log.specs.Record.{base_of}
use Rattle.hashed_strings.proofs.log_tables.base_of.Given as goal

abbrev pub invariant-loop-before : goal.invariant-loop-before
invariant-loop-before l = l.table ≡ base_of l.ended l.before
