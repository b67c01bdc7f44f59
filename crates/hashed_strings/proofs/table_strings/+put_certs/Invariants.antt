use Rattle.std.proofs.Common.{length}
use Rattle.hashed_strings.proofs.table_strings.+put_certs.Given as goal

abbrev pub decreases-put_certs : goal.decreases-put_certs
decreases-put_certs l = length l.changes.now
