use Rattle.std.proofs.Common.{◌≡◌, ℕ, ◌+◌, ◌<◌, [], slice_index_or}
use Rattle.lms_tree.specs.LmsKind.{leaves_of}
use Rattle.lms_tree.specs.Key.{node_at}
use Rattle.lms_tree.proofs.nodes.fill_four.Given as goal

abbrev pub invariant-loop-k : goal.invariant-loop-k
invariant-loop-k l =
    let node = leaves_of l.fn.parts.lms + l.fn.first in
    record {
      before : (r : ℕ) → r < node → slice_index_or l.nodes r [] ≡ slice_index_or l.fn.nodes r [];
      four : (k : ℕ) → k < l.k → slice_index_or l.nodes (node + k) [] ≡ node_at l.fn.parts 0 (node + k);
    }
