-- The changes that are left lead from the table so far to where all lead.
use Rattle.epoch_log.proofs.Applying.{IsBetween}
use Rattle.hashed_strings.proofs.log_tables.applied.Given as goal

abbrev pub invariant-loop-change : goal.invariant-loop-change
invariant-loop-change l = IsBetween l.epoch l.table l.changes l.change-index l.after
