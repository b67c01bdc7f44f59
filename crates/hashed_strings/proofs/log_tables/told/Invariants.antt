-- Each change so far is in its ranges.
use Rattle.std.proofs.Common.{take}
use Rattle.std.specs.Prelude.{All}
use Rattle.ar_cert.specs.Changes.{IsChange}
use Rattle.hashed_strings.proofs.log_tables.told.Given as goal

abbrev pub invariant-loop-change : goal.invariant-loop-change
invariant-loop-change l = All IsChange (take l.change-index l.changes)
