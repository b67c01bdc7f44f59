use Rattle.ar_council.proofs.Members.{council-adopting, council-all, council-learning}
use Rattle.ar_council.proofs.laws.what_is_learnt_leaves_the_council.Goals as goal

pub returns-clause-learnt : goal.returns-clause-learnt
returns-clause-learnt c = council-learning

pub returns-clause-all_learnt : goal.returns-clause-all_learnt
returns-clause-all_learnt c = council-all

pub returns-clause-adopted : goal.returns-clause-adopted
returns-clause-adopted c = council-adopting
