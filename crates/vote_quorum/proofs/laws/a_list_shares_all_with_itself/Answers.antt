use Rattle.vote_quorum.proofs.Counts.{shared_count-itself}
use Rattle.vote_quorum.proofs.laws.a_list_shares_all_with_itself.Goals as goal

pub returns : goal.returns
returns c = shared_count-itself
