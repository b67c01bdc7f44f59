use Rattle.std.proofs.Common.{arith}
use Rattle.vote_quorum.proofs.Shared.{three_shared, distinct_count-distinct}
use Rattle.vote_quorum.proofs.laws.quorums_share_three_logs.Goals as goal

pub returns-clause-lists : goal.returns-clause-lists
returns-clause-lists c n q one other wide a b f s long_one long_other =
    three_shared n q one other wide a b (omega (arith, distinct_count-distinct one f)) (omega (arith, distinct_count-distinct other s))

pub returns-clause-counts : goal.returns-clause-counts
returns-clause-counts c = three_shared
