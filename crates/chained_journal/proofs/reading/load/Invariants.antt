use Rattle.std.proofs.Common.{length}
use Rattle.chained_journal.proofs.Loading.{IsReading}
use Rattle.chained_journal.proofs.reading.load.Given as goal

abbrev pub invariant-loop-ahead : goal.invariant-loop-ahead
invariant-loop-ahead g l = IsReading g.P.Replay.takes l.title l.witness.count l.file l.initial.party l.party l.rest l.end l.count l.chain l.at_witness

abbrev pub decreases-loop-ahead : goal.decreases-loop-ahead
decreases-loop-ahead g l = length l.rest
