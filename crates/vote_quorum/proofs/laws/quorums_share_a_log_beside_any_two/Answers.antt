use Rattle.std.specs.Prelude.{IsTrue}
use Rattle.vote_quorum.proofs.Counts.{shares}
use Rattle.vote_quorum.proofs.laws.quorums_share_a_log_beside_any_two.Goals as goal

pub returns : goal.returns
returns c n q one other = shares n q (λ k. IsTrue (one k)) (λ k. IsTrue (other k))
