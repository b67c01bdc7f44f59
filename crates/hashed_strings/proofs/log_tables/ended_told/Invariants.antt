-- So far each change that was decided is in its ranges.
use Rattle.std.proofs.Common.{take}
use Rattle.std.specs.Prelude.{All}
use Rattle.ar_cert.specs.Changes.{IsChange}
use Rattle.hashed_strings.specs.Made.{changes_in}
use Rattle.hashed_strings.proofs.log_tables.ended_told.Given as goal

abbrev pub invariant-loop-epoch : goal.invariant-loop-epoch
invariant-loop-epoch l = All (λ x. All IsChange (changes_in x.how)) (take l.epoch-index l.ended)
