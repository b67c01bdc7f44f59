use Rattle.vote_quorum.proofs.Counting.{distinct_count-le}
use Rattle.vote_quorum.proofs.Shared.{distinct_count-distinct}
use Rattle.vote_quorum.proofs.laws.a_list_without_repeats_counts_all.Goals as goal

pub returns-clause-distinct : goal.returns-clause-distinct
returns-clause-distinct c = distinct_count-distinct

pub returns-clause-most : goal.returns-clause-most
returns-clause-most c = distinct_count-le
