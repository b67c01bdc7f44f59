use Rattle.run_premises.proofs.Ties.{first-keys-known, none-found-meets, premise-finds-none}
use Rattle.run_premises.proofs.laws.the_test_is_of_the_premise.Goals as goal

pub returns : goal.returns
returns c = record { finds = premise-finds-none; meets = none-found-meets; first = first-keys-known }
