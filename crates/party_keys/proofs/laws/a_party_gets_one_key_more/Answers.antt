use Rattle.party_keys.proofs.Touching.{new_is_last, own_is_next}
use Rattle.party_keys.proofs.laws.a_party_gets_one_key_more.Goals as goal

pub returns-clause-learn : goal.returns-clause-learn
returns-clause-learn c = new_is_last

pub returns-clause-adopt : goal.returns-clause-adopt
returns-clause-adopt c = own_is_next
