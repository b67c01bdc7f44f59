use Rattle.std.proofs.Common.{length}
use Rattle.ar_cert.proofs.same.+are_same_endorsements.Given as goal

abbrev pub decreases-are_same_endorsements : goal.decreases-are_same_endorsements
decreases-are_same_endorsements l = length l.one.now
