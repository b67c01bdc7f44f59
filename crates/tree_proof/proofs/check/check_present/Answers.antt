use Rattle.std.proofs.lemmas.Bool.Decides.{same_from_decides}
use Rattle.tree_proof.proofs.Tested.{is_on-Decides}
use Rattle.tree_proof.proofs.check.check_present.Goals as goal

pub returns-clause-test : goal.returns-clause-test
returns-clause-test c = same_from_decides _ _ c.has_value.ensures (is_on-Decides _ _ _ _)
