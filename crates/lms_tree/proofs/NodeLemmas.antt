-- Where nodes stand in a tree: at depth d they have the numbers from 2 ^ d to 2 ^ (d + 1) - 1.
use Rattle.std.proofs.Common.{◌≡◌, ◌∙◌, ap, refl, inl, inr, arith, ℕ, zero, suc, ◌+◌, ◌-◌, ◌*◌, ◌/◌, ◌%◌, ◌^◌, ◌<◌, ◌≤◌, cond, eq-eqb}
use Rattle.std.proofs.lemmas.Bool.{cases_lt}
use Rattle.std.proofs.lemmas.Bool.Decides.{nat_tests}
use Rattle.std.proofs.lemmas.Nat.{pow-add}
use Rattle.lms_tree.specs.declared.lms_type.LmsType.{LmsType}
use Rattle.lms_tree.specs.declared.lms_type.LmsType.TheVariants.{H5, H10, H15, H20, H25}
use Rattle.lms_tree.specs.KeyParts.{KeyParts}
use Rattle.lms_tree.specs.LmsKind.{height_of}
use Rattle.lms_tree.specs.Nodes.{IsAt}
use Rattle.lms_tree.specs.Tree.{leaf_node, inner_node}
use Rattle.lms_tree.specs.Key.{id_of, secret_of, node_at, sibling_of}
use Rattle.lm_ots.specs.Signing.{public_key_of}

-- twice a power of two is the next
pub pow-more : (n : ℕ) → 2 ^ (n + 1) ≡ 2 * 2 ^ n
pow-more n = omega (arith, pow-add 2 n 1)

-- a tree has at most 2 ^ 25 leaves, and at least 32
pub pow-height_of-le : (lms : LmsType) → 2 ^ height_of lms ≤ 33554432
pow-height_of-le H5 = omega arith
pow-height_of-le H10 = omega arith
pow-height_of-le H15 = omega arith
pow-height_of-le H20 = omega arith
pow-height_of-le H25 = omega arith

-- its leaves are a multiple of four
pub leaves-by-four : (lms : LmsType) → 4 * (2 ^ height_of lms / 4) ≡ 2 ^ height_of lms
leaves-by-four H5 = refl
leaves-by-four H10 = refl
leaves-by-four H15 = refl
leaves-by-four H20 = refl
leaves-by-four H25 = refl

-- a power of two is no more than a later one
pub pow-le : (d k : ℕ) → 2 ^ d ≤ 2 ^ (d + k)
pow-le d zero =
    let e : d + zero ≡ d = omega arith in
    omega (arith, ap (λ n. 2 ^ n) e)
pow-le d (suc k) =
    let e : d + suc k ≡ d + k + 1 = omega arith in
    omega (arith, pow-le d k, ap (λ n. 2 ^ n) e, pow-more (d + k))

-- the second half of the nodes are leaves
pub height-of-leaf : (key : KeyParts) (depth height r : ℕ) → IsAt key depth height r → 2 ^ height_of key.lms ≤ r → height ≡ 0
height-of-leaf key depth zero r at low = omega arith
height-of-leaf key depth (suc k) r at low =
    let e : height_of key.lms ≡ depth + 1 + k = omega (arith, at.0) in
    absurd (omega (arith, at.2, low, ap (λ n. 2 ^ n) e, pow-le (depth + 1) k, pow-more depth))

-- the first half have children
pub height-of-inner : (key : KeyParts) (depth height r : ℕ) → IsAt key depth height r → r < 2 ^ height_of key.lms → (k : ℕ) × (height ≡ suc k)
height-of-inner key depth zero r at high =
    let e : height_of key.lms ≡ depth = omega (arith, at.0) in
    absurd (omega (arith, at.1, high, ap (λ n. 2 ^ n) e))
height-of-inner key depth (suc k) r at high = (k, omega arith)

-- the children of a node lie one deeper
pub child-left : (key : KeyParts) (depth k r : ℕ) → IsAt key depth (suc k) r → IsAt key (depth + 1) k (2 * r)
child-left key depth k r at =
    (omega (arith, at.0), omega (arith, at.1, pow-more depth), omega (arith, at.2, pow-more depth))

pub child-right : (key : KeyParts) (depth k r : ℕ) → IsAt key depth (suc k) r → IsAt key (depth + 1) k (2 * r + 1)
child-right key depth k r at =
    (omega (arith, at.0), omega (arith, at.1, pow-more depth), omega (arith, at.2, pow-more depth))

-- T[r] of a leaf
pub node_at-leaf : (key : KeyParts) (leaf r : ℕ) → r ≡ 2 ^ height_of key.lms + leaf → node_at key 0 r ≡ leaf_node (id_of key.seed) r (public_key_of (secret_of key leaf))
unfolding node_at
node_at-leaf key leaf r e =
    let number : r - 2 ^ height_of key.lms ≡ leaf = omega arith in
    ap (λ n. leaf_node (id_of key.seed) r (public_key_of (secret_of key n))) number

-- T[r] of an inner node
pub node_at-more : (key : KeyParts) (k r : ℕ) → node_at key (suc k) r ≡ inner_node (id_of key.seed) r (node_at key k (2 * r)) (node_at key k (2 * r + 1))
unfolding node_at
node_at-more key k r = refl

-- which child is the sibling
pub sibling-of-odd : (r : ℕ) → r % 2 ≡ 1 → sibling_of r ≡ r - 1
sibling-of-odd r e = ap (λ b. cond b (r - 1) (r + 1)) (eq-eqb (r % 2) 1 e)

pub sibling-of-even : (r : ℕ) → r % 2 ≡ 0 → sibling_of r ≡ r + 1
sibling-of-even r e = grind (arith, nat_tests)

-- a sibling lies at the same depth, below the root
pub sibling-at : (key : KeyParts) (depth k r : ℕ) → 0 < depth → IsAt key depth k r → IsAt key depth k (sibling_of r)
sibling-at key zero k r below at = absurd (omega arith)
sibling-at key (suc d) k r below at =
    let e : suc d ≡ d + 1 = omega arith in
    let even : 2 ^ suc d ≡ 2 * 2 ^ d = ap (λ n. 2 ^ n) e ∙ pow-more d in
    elim (cases_lt (r % 2) 1) [
      | inl h ↦
          let s = sibling-of-even r (omega arith) in
          (at.0, omega (arith, s, at.1), omega (arith, s, at.2, even))
      | inr h ↦
          let s = sibling-of-odd r (omega arith) in
          (at.0, omega (arith, s, at.1, even), omega (arith, s, at.2))
    ]
