use Rattle.vote_quorum.proofs.Counts.{count_from_at_least, at_least_from_count}
use Rattle.vote_quorum.proofs.laws.at_least_is_a_count.Goals as goal

pub returns : goal.returns
returns c = λ q n test. (count_from_at_least q n test, at_least_from_count q n test)
