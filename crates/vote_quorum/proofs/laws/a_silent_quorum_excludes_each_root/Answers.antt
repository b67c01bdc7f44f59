use Rattle.vote_quorum.proofs.Silence.{silent_quorum}
use Rattle.vote_quorum.proofs.laws.a_silent_quorum_excludes_each_root.Goals as goal

pub returns : goal.returns
returns c = silent_quorum
