use Rattle.std.proofs.Common.{◌≡◌, rules, [], sym, ◌∙◌, arith}
use Rattle.sha2.specs.Sha256.{sha256, digest_bytes}
use Rattle.hash_tree.specs.Strings.{node_digest}
use Rattle.hash_tree.proofs.Maps.{ascending-of_side}
use Rattle.hash_tree.proofs.ByCount.{digest-none, digest-one, digest-halves, agree-of_side}
use Rattle.hash_tree.proofs.roots.+digest.Goals as goal

pub put_digest-returns-in-empty : goal.put_digest-returns-in-empty
put_digest-returns-in-empty t c = c.copy_from_slice.ensures.after ∙ (c.empty_digest.ensures ∙ sym (digest-none c.args.entries.now c.args.depth c.in-empty.len_below))

pub put_digest-returns-in-len1 : goal.put_digest-returns-in-len1
put_digest-returns-in-len1 t c =
    c.copy_from_slice-in-len1.ensures.after
    ∙ (c.entry_digest.ensures ∙ sym (digest-one c.args.entries.now c.args.depth ([], []) c.requires.ascending c.in-len1.len_at_least c.in-len1.len_below))

pub put_node-put_digest-requires : goal.put_node-put_digest-requires
put_node-put_digest-requires t c = (
  search rules,
  (
    rw c.halves.ensures.left (ascending-of_side c.args.depth 0 c.args.entries.now c.requires.ascending),
    (rw c.halves.ensures.left (agree-of_side c.args.entries.now c.args.depth 0 c.requires.agreed), (omega arith, search rules)),
  ),
)

pub put_node-put_digest-requires-2 : goal.put_node-put_digest-requires-2
put_node-put_digest-requires-2 t c = (
  search rules,
  (
    rw c.halves.ensures.right (ascending-of_side c.args.depth 1 c.args.entries.now c.requires.ascending),
    (rw c.halves.ensures.right (agree-of_side c.args.entries.now c.args.depth 1 c.requires.agreed), (omega arith, search rules)),
  ),
)

pub put_node-returns : goal.put_node-returns
unfolding sha256 digest_bytes
put_node-returns t c =
    let hashed : c.hash.result ≡ node_digest c.put_digest.new.out c.put_digest-2.new.out = search rules in
    c.copy_from_slice.ensures.after
    ∙ digest-halves c.args.entries.now c.args.depth _ _ _ _ _ c.requires.ascending c.requires.several c.halves.ensures.in_key
    c.halves.ensures.left c.halves.ensures.right c.put_digest.ensures c.put_digest-2.ensures hashed
