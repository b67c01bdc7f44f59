-- The halves keep what is asked of entries, and of several the strings are that of the node and those of both halves.
use Rattle.std.proofs.Common.{rules, [], arith}
use Rattle.hashed_strings.proofs.TreeLists.{ascending-left, agree-left, on-ok, put-none, put-one, put-several}
use Rattle.hashed_strings.proofs.tree_strings.+tree.Goals as goal

pub put_node-subtree_digest-requires-clause-ascending : goal.put_node-subtree_digest-requires-clause-ascending
put_node-subtree_digest-requires-clause-ascending t c = ascending-left c.args.entries.now c.halves.result.0.now c.args.depth 0 c.halves.ensures.left c.requires.ascending

pub put_node-subtree_digest-requires-clause-agreed : goal.put_node-subtree_digest-requires-clause-agreed
put_node-subtree_digest-requires-clause-agreed t c = agree-left c.args.entries.now c.halves.result.0.now c.args.depth 0 c.halves.ensures.left c.requires.agreed

pub put_node-subtree_digest-requires-2-clause-ascending : goal.put_node-subtree_digest-requires-2-clause-ascending
put_node-subtree_digest-requires-2-clause-ascending t c = ascending-left c.args.entries.now c.halves.result.1.now c.args.depth 1 c.halves.ensures.right c.requires.ascending

pub put_node-subtree_digest-requires-2-clause-agreed : goal.put_node-subtree_digest-requires-2-clause-agreed
put_node-subtree_digest-requires-2-clause-agreed t c = agree-left c.args.entries.now c.halves.result.1.now c.args.depth 1 c.halves.ensures.right c.requires.agreed

pub put_node-put_tree-requires : goal.put_node-put_tree-requires
put_node-put_tree-requires t c = (
  search rules,
  (
    ascending-left c.args.entries.now c.halves.result.0.now c.args.depth 0 c.halves.ensures.left c.requires.ascending,
    (agree-left c.args.entries.now c.halves.result.0.now c.args.depth 0 c.halves.ensures.left c.requires.agreed, omega (arith, c.halves.ensures.in_key)),
  ),
)

pub put_node-put_tree-requires-2 : goal.put_node-put_tree-requires-2
put_node-put_tree-requires-2 t c = (
  search rules,
  (
    ascending-left c.args.entries.now c.halves.result.1.now c.args.depth 1 c.halves.ensures.right c.requires.ascending,
    (agree-left c.args.entries.now c.halves.result.1.now c.args.depth 1 c.halves.ensures.right c.requires.agreed, omega (arith, c.halves.ensures.in_key)),
  ),
)

pub put_node-returns : goal.put_node-returns
put_node-returns t c =
    on-ok c.put_tree-2.result _ _
    (λ last. put-several c.args.strings.now.items c.put_string.new.strings.items c.put_tree.new.strings.items c.put_tree-2.new.strings.items
    c.args.entries.now c.halves.result.0.now c.halves.result.1.now c.args.depth c.subtree_digest.result c.subtree_digest-2.result
    c.requires.ascending c.requires.several c.halves.ensures.in_key c.halves.ensures.left c.halves.ensures.right c.subtree_digest.ensures c.subtree_digest-2.ensures
    c.in_ok-put_string.ensures c.in_ok-put_tree.ensures last)
    c.put_tree-2.ensures

pub put_tree-returns-in-empty : goal.put_tree-returns-in-empty
put_tree-returns-in-empty t c =
    on-ok c.put_text.result _ _ (put-none c.args.strings.now.items c.put_text.new.strings.items c.args.entries.now c.args.depth c.in-empty.len_below) c.put_text.ensures

pub put_tree-returns-in-len1 : goal.put_tree-returns-in-len1
put_tree-returns-in-len1 t c =
    on-ok c.put_string.result _ _
    (put-one c.args.strings.now.items c.put_string.new.strings.items c.args.entries.now c.args.depth ([], []) c.requires.ascending c.in-len1.len_at_least c.in-len1.len_below) c.put_string.ensures
