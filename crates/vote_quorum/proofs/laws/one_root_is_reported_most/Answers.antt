use Rattle.vote_quorum.proofs.Reported.{one_most}
use Rattle.vote_quorum.proofs.laws.one_root_is_reported_most.Goals as goal

pub returns : goal.returns
returns c = one_most
