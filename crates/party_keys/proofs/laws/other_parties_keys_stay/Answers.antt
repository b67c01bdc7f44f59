use Rattle.party_keys.proofs.Touching.{adopting_stays, all_stay, learning_stays}
use Rattle.party_keys.proofs.laws.other_parties_keys_stay.Goals as goal

pub returns-clause-learn : goal.returns-clause-learn
returns-clause-learn c = learning_stays

pub returns-clause-learn_all : goal.returns-clause-learn_all
returns-clause-learn_all c = all_stay

pub returns-clause-adopt : goal.returns-clause-adopt
returns-clause-adopt c = adopting_stays
