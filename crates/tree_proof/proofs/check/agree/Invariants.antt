use Rattle.hash_tree.specs.Entries.{Agree}
use Rattle.tree_proof.proofs.check.agree.Given as goal

abbrev pub invariant-loop-depth : goal.invariant-loop-depth
invariant-loop-depth l = Agree l.depth l.one l.other
