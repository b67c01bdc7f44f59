use Rattle.std.proofs.Common.{rules, ◌-◌, [], append-nil, sym, ◌∙◌, arith}
use Rattle.hash_tree.specs.Entries.{bit}
use Rattle.hash_tree.proofs.Maps.{ascending-of_side}
use Rattle.hash_tree.proofs.ByCount.{agree-of_side}
use Rattle.tree_proof.proofs.Walk.{steps-list_few, bottom-list_none, bottom-list_one, bottom-parted, steps-walked}
use Rattle.tree_proof.proofs.make.+walk.Goals as goal

pub walk-requires : goal.walk-requires
walk-requires t c = (
  search rules,
  (
    rw c.parted.ensures.same (ascending-of_side c.args.depth (bit c.args.key.now c.args.depth) c.args.entries.now c.requires.ascending),
    (rw c.parted.ensures.same (agree-of_side c.args.entries.now c.args.depth (bit c.args.key.now c.args.depth) c.requires.agreed), omega arith),
  ),
)

pub subtree_digest-requires-clause-ascending : goal.subtree_digest-requires-clause-ascending
subtree_digest-requires-clause-ascending t c =
    rw c.parted.ensures.other (ascending-of_side c.args.depth (1 - bit c.args.key.now c.args.depth) c.args.entries.now c.requires.ascending)

pub subtree_digest-requires-clause-agreed : goal.subtree_digest-requires-clause-agreed
subtree_digest-requires-clause-agreed t c =
    rw c.parted.ensures.other (agree-of_side c.args.entries.now c.args.depth (1 - bit c.args.key.now c.args.depth) c.requires.agreed)

pub returns-in-empty-clause-bottom : goal.returns-in-empty-clause-bottom
returns-in-empty-clause-bottom t c = sym (bottom-list_none c.args.entries.now c.args.key.now _ c.requires.ascending c.in-empty.len_below)

pub returns-in-empty-clause-steps : goal.returns-in-empty-clause-steps
returns-in-empty-clause-steps t c =
    rw (steps-list_few c.args.entries.now c.args.key.now (256 - c.args.depth) c.requires.ascending (omega arith)) (sym (append-nil _))

pub returns-in-len1-clause-bottom : goal.returns-in-len1-clause-bottom
returns-in-len1-clause-bottom t c = sym (bottom-list_one c.args.entries.now c.args.key.now _ ([], []) c.requires.ascending c.in-len1.len_at_least c.in-len1.len_below)

pub returns-in-len1-clause-steps : goal.returns-in-len1-clause-steps
returns-in-len1-clause-steps t c =
    rw (steps-list_few c.args.entries.now c.args.key.now (256 - c.args.depth) c.requires.ascending c.in-len1.len_below) (sym (append-nil _))

pub returns-in_ok-push-in_default-clause-bottom : goal.returns-in_ok-push-in_default-clause-bottom
returns-in_ok-push-in_default-clause-bottom t c =
    rw c.parted.ensures.same at c.in_ok-bottom-in_default.ensures.bottom
    ∙ sym (bottom-parted c.args.entries.now c.args.key.now c.args.depth c.requires.ascending c.in_default.len_at_least c.parted.ensures.in_key)

pub returns-in_ok-push-in_default-clause-steps : goal.returns-in_ok-push-in_default-clause-steps
returns-in_ok-push-in_default-clause-steps t c =
    steps-walked c.args.entries.now c.args.key.now c.args.depth _ _ _ _ _ _ c.requires.ascending c.in_default.len_at_least c.parted.ensures.in_key
    c.parted.ensures.same c.parted.ensures.other c.in_ok-bottom-in_default.ensures.steps c.subtree_digest.ensures c.in_ok-push-in_default.ensures.items
