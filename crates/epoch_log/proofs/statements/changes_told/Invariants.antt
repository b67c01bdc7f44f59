use Rattle.std.proofs.Common.{take}
use Rattle.std.specs.Prelude.{All}
use Rattle.ar_cert.specs.Changes.{IsChange}
use Rattle.epoch_log.proofs.statements.changes_told.Given as goal

-- each change so far has a text
abbrev pub invariant-loop-change : goal.invariant-loop-change
invariant-loop-change l = All IsChange (take l.change-index l.changes)
