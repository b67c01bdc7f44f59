use Rattle.std.proofs.Common.{◌≡◌, ℕ, ◌+◌, ◌*◌, ◌/◌, ◌^◌, ◌<◌, ◌≤◌, ◌++◌, take}
use Rattle.std.specs.List.{flat_map, range_with_len}
use Rattle.lm_ots.specs.OtsKind.{signature_len_of}
use Rattle.lms_tree.specs.LmsKind.{height_of}
use Rattle.lms_tree.specs.Key.{path_element}
use Rattle.lms_tree.proofs.path.put_path.Given as goal

abbrev pub invariant-loop-k : goal.invariant-loop-k
invariant-loop-k l =
    let key = l.fn.parts in
    let leaves = 2 ^ height_of key.lms in
    let front = 8 + signature_len_of key.ots in
    record {
      node : l.node ≡ (leaves + l.fn.leaf) / 2 ^ l.k;
      bound : l.node < 2 * leaves;
      level : (depth : ℕ) → depth + l.k ≡ height_of key.lms → (2 ^ depth ≤ l.node) × (l.node < 2 * 2 ^ depth);
      out : take (front + 32 * l.k) l.out
          ≡ take front l.initial.out ++ flat_map (path_element key l.fn.leaf) (range_with_len 0 l.k);
    }
