use Rattle.vote_quorum.proofs.Silence.{excludes_by_sums}
use Rattle.vote_quorum.proofs.laws.exclusion_is_by_sums.Goals as goal

pub returns : goal.returns
returns c = excludes_by_sums
