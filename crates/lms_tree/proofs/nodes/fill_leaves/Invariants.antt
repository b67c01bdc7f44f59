use Rattle.std.proofs.Common.{◌≡◌, ℕ, ◌+◌, ◌*◌, ◌<◌, ◌≤◌, [], slice_index_or}
use Rattle.lms_tree.specs.LmsKind.{leaves_of}
use Rattle.lms_tree.specs.Key.{node_at}
use Rattle.lms_tree.proofs.nodes.fill_leaves.Given as goal

abbrev pub invariant-loop-group : goal.invariant-loop-group
invariant-loop-group l =
    let first = leaves_of l.fn.parts.lms in
    (r : ℕ) → first ≤ r → r < first + 4 * l.group → slice_index_or l.nodes r [] ≡ node_at l.fn.parts 0 r
