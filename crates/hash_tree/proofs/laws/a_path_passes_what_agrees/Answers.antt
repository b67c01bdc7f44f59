use Rattle.hash_tree.proofs.Kept.{steps-most}
use Rattle.hash_tree.proofs.Longer.{passes}
use Rattle.hash_tree.proofs.laws.a_path_passes_what_agrees.Goals as goal

pub returns-clause-most : goal.returns-clause-most
returns-clause-most c = λ m key. steps-most 256 key m

pub returns-clause-passes : goal.returns-clause-passes
returns-clause-passes c = passes
