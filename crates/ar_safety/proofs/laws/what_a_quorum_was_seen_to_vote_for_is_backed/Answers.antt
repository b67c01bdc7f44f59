use Rattle.ar_safety.proofs.Succession.{saw-backed}
use Rattle.ar_safety.proofs.laws.what_a_quorum_was_seen_to_vote_for_is_backed.Goals as goal

pub returns : goal.returns
returns c = λ r party epoch to honest forged is least most digest saw. saw-backed r honest forged party is epoch to least most digest saw
