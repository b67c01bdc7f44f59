use Rattle.chained_journal.proofs.Witnessed.{begins_witnessed, not_older_borne}
use Rattle.chained_journal.proofs.laws.a_witness_tells_an_older_journal.Goals as goal

pub returns-clause-begins : goal.returns-clause-begins
returns-clause-begins c = begins_witnessed

pub returns-clause-older : goal.returns-clause-older
returns-clause-older c = not_older_borne
