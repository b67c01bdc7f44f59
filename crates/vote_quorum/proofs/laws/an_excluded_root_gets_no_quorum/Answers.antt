use Rattle.vote_quorum.proofs.Silence.{fewer_votes}
use Rattle.vote_quorum.proofs.laws.an_excluded_root_gets_no_quorum.Goals as goal

pub returns : goal.returns
returns c = fewer_votes
