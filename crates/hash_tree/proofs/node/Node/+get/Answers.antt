use Rattle.std.proofs.Common.{rules, ◌<◌, ◌∙◌, ap, sym}
use Rattle.std.specs.FinMap.{get}
use Rattle.std.proofs.lemmas.Bool.Decides.{not_from_Decides}
use Rattle.std.proofs.lemmas.Slice.Eq.{bytes_eq-Decides}
use Rattle.hash_tree.proofs.Changed.{get-here}
use Rattle.hash_tree.proofs.Few.{get-one_key, get-other}
use Rattle.hash_tree.proofs.Kept.{parts, leaf_only, empty_has_none, other_bit}
use Rattle.hash_tree.proofs.node.Node.+get.Goals as goal

pub key_bit-requires : goal.key_bit-requires
key_bit-requires t c = (parts _ _ _ _ _ _ c.in-Branch.is c.requires.kept).below

pub overflow_add-depth : goal.overflow_add-depth
overflow_add-depth t c = let below : c.args.depth < 256 = (parts _ _ _ _ _ _ c.in-Branch.is c.requires.kept).below in search rules

pub get-requires : goal.get-requires
get-requires t c =
    let below : c.args.depth < 256 = (parts _ _ _ _ _ _ c.in-Branch.is c.requires.kept).below in
    (search rules, rw c.deref.ensures ((parts _ _ _ _ _ _ c.in-Branch.is c.requires.kept).left_kept))

pub get-requires-else-key_bit-eq0 : goal.get-requires-else-key_bit-eq0
get-requires-else-key_bit-eq0 t c =
    let below : c.args.depth < 256 = (parts _ _ _ _ _ _ c.in-Branch.is c.requires.kept).below in
    (search rules, rw c.deref-else-key_bit-eq0.ensures ((parts _ _ _ _ _ _ c.in-Branch.is c.requires.kept).right_kept))

pub returns-in-Empty : goal.returns-in-Empty
returns-in-Empty t c = sym (empty_has_none _ c.args.key.now c.in-Empty.is)

pub returns-then-eq : goal.returns-then-eq
returns-then-eq t c = sym (get-one_key _ _ c.args.key.now (leaf_only _ _ _ c.in-Leaf.is c.requires.kept) ((bytes_eq-Decides _ _).0 (sym c.if-eq.ensures)))

pub returns-else-eq : goal.returns-else-eq
returns-else-eq t c = sym (get-other _ _ c.args.key.now (leaf_only _ _ _ c.in-Leaf.is c.requires.kept) (not_from_Decides _ (bytes_eq-Decides _ _) (sym c.if-eq.ensures)))

pub returns-then-key_bit-eq0 : goal.returns-then-key_bit-eq0
returns-then-key_bit-eq0 t c =
    let known = parts _ _ _ _ _ _ c.in-Branch.is c.requires.kept in
    c.get.ensures ∙ rw c.deref.ensures (ap (λ m. get m c.args.key.now) known.is_left)
    ∙ get-here c.args.depth 0 _ c.args.key.now (sym c.key_bit.ensures ∙ c.if-key_bit-eq0.true)

pub returns-else-key_bit-eq0 : goal.returns-else-key_bit-eq0
returns-else-key_bit-eq0 t c =
    let known = parts _ _ _ _ _ _ c.in-Branch.is c.requires.kept in
    c.get-else-key_bit-eq0.ensures ∙ rw c.deref-else-key_bit-eq0.ensures (ap (λ m. get m c.args.key.now) known.is_right)
    ∙ get-here c.args.depth 1 _ c.args.key.now (other_bit c.args.key.now c.args.depth (λ e. c.if-key_bit-eq0.false (c.key_bit.ensures ∙ e)))
