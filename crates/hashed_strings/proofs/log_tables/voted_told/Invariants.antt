-- So far each change that was voted for is in its ranges.
use Rattle.std.proofs.Common.{take}
use Rattle.std.specs.Prelude.{All}
use Rattle.ar_cert.specs.Changes.{IsChange}
use Rattle.hashed_strings.proofs.log_tables.voted_told.Given as goal

abbrev pub invariant-loop-vote : goal.invariant-loop-vote
invariant-loop-vote l = All (λ v. All IsChange v.changes) (take l.vote-index l.voted)
