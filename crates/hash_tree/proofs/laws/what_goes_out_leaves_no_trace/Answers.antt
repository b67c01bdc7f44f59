use Rattle.hash_tree.proofs.Longer.{no_trace}
use Rattle.hash_tree.proofs.laws.what_goes_out_leaves_no_trace.Goals as goal

pub returns : goal.returns
returns c = no_trace
