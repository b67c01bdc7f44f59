-- What is signed is valid.
use Rattle.std.proofs.Common.{◌≡◌, ◌∙◌, ap, sym, refl, arith, ℕ, zero, suc, ◌+◌, ◌*◌, ◌/◌, ◌%◌, ◌^◌, ◌<◌, ◌==◌, eq-eqb, false, List, cond, inl, inr, lt-ltb, length, map}
use Rattle.std.specs.Prelude.{All}
use Rattle.std.specs.List.{range_with_len}
use Rattle.std.proofs.lemmas.Bool.{cases_lt}
use Rattle.std.proofs.lemmas.Bool.Decides.{nat_tests}
use Rattle.std.proofs.lemmas.List.Elements.{All-nil, All-cons}
use Rattle.std.proofs.lemmas.List.FromFn.{length-map-range_with_len}
use Rattle.std.proofs.lemmas.Nat.{shr-shr, shr_high}
use Rattle.std.proofs.lemmas.Slice.Eq.{bytes_eq-Decides}
use Rattle.sha2.proofs.Facts256.{length-sha256}
use Rattle.lm_ots.proofs.SigningLemmas.{length-signature_of, type_number-signature_of, candidate_key-signature_of}
use Rattle.lms_tree.specs.declared.validity.Verdict.TheVariants.{Valid}
use Rattle.lms_tree.specs.Signature.{FitsTypes}
use Rattle.lms_tree.specs.KeyParts.{KeyParts}
use Rattle.lms_tree.specs.LmsKind as lms_kind
use Rattle.lms_tree.specs.LmsKind.{height_of}
use Rattle.lms_tree.specs.Tree.{leaf_node, inner_node, parent_of, go_up}
use Rattle.lms_tree.specs.Key.{id_of, secret_of, node_at, public_of, sibling_of, path_element, signature_of}
use Rattle.lms_tree.specs.Key.{signed_parts}
use Rattle.lms_tree.specs.Validity.{candidate_root, verdict_of}
use Rattle.lms_tree.proofs.SignatureLemmas.{judged, parts_of-signature_text}
use Rattle.lms_tree.proofs.KeyLemmas.{lms_number-lt}
use Rattle.lms_tree.proofs.NodeLemmas.{pow-height_of-le, node_at-leaf, node_at-more, sibling-of-odd, sibling-of-even}

-- a node has 32 bytes
pub length-node_at : (key : KeyParts) (height r : ℕ) → length (node_at key height r) ≡ 32
unfolding node_at
length-node_at key zero r = length-sha256 _
length-node_at key (suc height) r = length-sha256 _

-- a node and its sibling give their parent
pub parent_of-node_at : (key : KeyParts) (k r : ℕ) → parent_of (id_of key.seed) r (node_at key k r) (node_at key k (sibling_of r)) ≡ node_at key (suc k) (r / 2)
parent_of-node_at key k r =
    let id = id_of key.seed in
    let half = r / 2 in
    elim (cases_lt (r % 2) 1) [
      | inl even ↦
          let s = sibling-of-even r (omega arith) in
          let left : r ≡ 2 * half = omega arith in
          let right : sibling_of r ≡ 2 * half + 1 = omega (arith, s) in
          let test : (r % 2 == 1) ≡ false = grind (arith, nat_tests) in
          ap (λ b. cond b (inner_node id half (node_at key k (sibling_of r)) (node_at key k r))
          (inner_node id half (node_at key k r) (node_at key k (sibling_of r)))) test
          ∙ ap (λ n. inner_node id half (node_at key k n) (node_at key k (sibling_of r))) left
          ∙ ap (λ n. inner_node id half (node_at key k (2 * half)) (node_at key k n)) right
          ∙ sym (node_at-more key k half)
      | inr odd ↦
          let one : r % 2 ≡ 1 = omega arith in
          let s = sibling-of-odd r one in
          let left : sibling_of r ≡ 2 * half = omega (arith, s) in
          let right : r ≡ 2 * half + 1 = omega arith in
          ap (λ b. cond b (inner_node id half (node_at key k (sibling_of r)) (node_at key k r))
          (inner_node id half (node_at key k r) (node_at key k (sibling_of r)))) (eq-eqb (r % 2) 1 one)
          ∙ ap (λ n. inner_node id half (node_at key k n) (node_at key k r)) left
          ∙ ap (λ n. inner_node id half (node_at key k (2 * half)) (node_at key k n)) right
          ∙ sym (node_at-more key k half)
    ]

-- the node over a leaf at a height
abbrev over : KeyParts → ℕ → ℕ → ℕ
over key leaf k = (2 ^ height_of key.lms + leaf) / 2 ^ k

-- over a leaf at the height of the tree is the root
top-one : (h leaf : ℕ) → leaf < 2 ^ h → (2 ^ h + leaf) / 2 ^ h ≡ 1
top-one h leaf below =
    let e : 2 ^ h + leaf ≡ 1 * 2 ^ h + leaf = omega arith in
    ap (λ n. n / 2 ^ h) e ∙ shr_high 1 h leaf below

-- the way up from the node over a leaf at height k, of which m levels are left
pub go_up-node_at : (key : KeyParts) (leaf m k : ℕ) → m + k ≡ height_of key.lms → leaf < 2 ^ height_of key.lms → go_up (id_of key.seed) (over key leaf k) (node_at key k (over key leaf k)) (map (path_element key leaf) (range_with_len k m)) ≡ node_at key (height_of key.lms) 1
go_up-node_at key leaf zero k e below =
    let at_top : k ≡ height_of key.lms = omega arith in
    let one : over key leaf (height_of key.lms) ≡ 1 = top-one (height_of key.lms) leaf below in
    ap (λ n. node_at key n (over key leaf n)) at_top ∙ ap (node_at key (height_of key.lms)) one
go_up-node_at key leaf (suc m) k e below =
    let id = id_of key.seed in
    let r = over key leaf k in
    let next : k + 1 ≡ suc k = omega arith in
    let up : r / 2 ≡ over key leaf (k + 1) = shr-shr (2 ^ height_of key.lms + leaf) k 1 in
    let rest = map (path_element key leaf) (range_with_len (k + 1) m) in
    let parent = parent_of-node_at key k r ∙ ap (λ n. node_at key n (r / 2)) (sym next) ∙ ap (node_at key (k + 1)) up in
    ap (λ v. go_up id (r / 2) v rest) parent
    ∙ ap (λ n. go_up id n (node_at key (k + 1) (over key leaf (k + 1))) rest) up
    ∙ go_up-node_at key leaf m (k + 1) (omega arith) below

-- the nodes of a path have 32 bytes
nodes-wide : (key : KeyParts) (leaf a n : ℕ) → All (λ node. length node ≡ 32) (map (path_element key leaf) (range_with_len a n))
nodes-wide key leaf a zero = All-nil (λ (node : List ℕ). length node ≡ 32)
nodes-wide key leaf a (suc n) =
    All-cons (λ (node : List ℕ). length node ≡ 32) (path_element key leaf a) (map (path_element key leaf) (range_with_len (a + 1) n))
    (length-node_at key a (sibling_of (over key leaf a))) (nodes-wide key leaf (a + 1) n)

-- what is signed has the lengths of the key's types
fits-signed_parts : (key : KeyParts) (leaf : ℕ) (message : List ℕ) → leaf < 2 ^ height_of key.lms → FitsTypes key.lms key.ots (signed_parts key leaf message)
fits-signed_parts key leaf message below = record {
  leaf = omega (arith, pow-height_of-le key.lms);
  one_time = length-signature_of (secret_of key leaf) message;
  number = lms_number-lt key.lms;
  steps = length-map-range_with_len (path_element key leaf) 0 (height_of key.lms);
  nodes = nodes-wide key leaf 0 (height_of key.lms);
}

-- a signature leads to the key's root
candidate_root-signed_parts : (key : KeyParts) (leaf : ℕ) (message : List ℕ) → leaf < 2 ^ height_of key.lms → candidate_root (public_of key) message (signed_parts key leaf message) ≡ node_at key (height_of key.lms) 1
unfolding candidate_root
candidate_root-signed_parts key leaf message below =
    let id = id_of key.seed in
    let h = height_of key.lms in
    let node = 2 ^ h + leaf in
    let path = map (path_element key leaf) (range_with_len 0 h) in
    let start : node ≡ over key leaf 0 = omega arith in
    ap (λ k. go_up id node (leaf_node id node k) path) (candidate_key-signature_of (secret_of key leaf) message)
    ∙ ap (λ v. go_up id node v path) (sym (node_at-leaf key leaf node refl))
    ∙ ap (λ n. go_up id n (node_at key 0 n) path) start
    ∙ go_up-node_at key leaf h 0 (omega arith) below

-- what is signed is valid
pub verdict_of-signature_of : (key : KeyParts) (leaf : ℕ) (message : List ℕ) → leaf < 2 ^ height_of key.lms → verdict_of (public_of key) message (signature_of key leaf message) ≡ Valid
unfolding signature_of
verdict_of-signature_of key leaf message below =
    let ots = eq-eqb _ _ (type_number-signature_of (secret_of key leaf) message) in
    let lms = eq-eqb (lms_kind.number_of key.lms) _ refl in
    let within = lt-ltb leaf (2 ^ height_of key.lms) below in
    let root = (bytes_eq-Decides _ _).1 (candidate_root-signed_parts key leaf message below) in
    judged (public_of key) message (signature_of key leaf message) (signed_parts key leaf message)
    (parts_of-signature_text (public_of key) (signed_parts key leaf message) (fits-signed_parts key leaf message below))
    ∙ rw (ots, lms, within, root) refl
