use Rattle.ar_cert.proofs.Accepted.{one_is_chain, more_is_chain}
use Rattle.ar_cert.proofs.laws.a_chain_grows_by_accepted_changes.Goals as goal

pub returns-clause-one : goal.returns-clause-one
returns-clause-one c = one_is_chain

pub returns-clause-more : goal.returns-clause-more
returns-clause-more c = more_is_chain
