-- Where no strings collide, a path that leads to the digest of a set of entries follows the key's own
-- halves, and its foot is the string of what is left there.
use Rattle.std.proofs.Common.{◌≡◌, ℕ, zero, suc, ◌+◌, ◌≤◌, List, [], ◌∷◌, ◌++◌, length, get_or, take, drop, length-append, refl, sym, ap, ◌∙◌, ◌⊎◌, inl, inr, arith, true, false, cond, eqb, Some, None}
use Rattle.std.specs.FinMap.{get, entries}
use Rattle.std.proofs.lemmas.Bool.{eqb-true}
use Rattle.std.proofs.lemmas.List.{take_at, drop_at}
use Rattle.sha2.specs.Sha256.{sha256}
use Rattle.sha2.proofs.Facts256.{length-sha256}
use Rattle.hash_tree.specs.Strings.{node_string}
use Rattle.hash_tree.specs.Entries.{Entry, Entries, bit, half}
use Rattle.hash_tree.specs.Root.{string_below, digest_below, strings_below}
use Rattle.hash_tree.proofs.Maps.{get-half, one_at}
use Rattle.hash_tree.proofs.ByCount.{string-none, string-one, string-end, string-more, strings-own, strings-more}
use Rattle.hash_tree.proofs.Changed.{get-here}
use Rattle.ar_base.specs.Apart.{IsIn, Apart}
use Rattle.ar_base.proofs.Apart.{in_front, in_rest}
use Rattle.tree_proof.specs.Fold.{joined}
use Rattle.tree_proof.proofs.Down.{value_down, strings_down}

-- one list in two ways: its parts are the same, where the first or the second have one length
pub same_parts : (a b c d : List ℕ) → a ++ b ≡ c ++ d → length a ≡ length c → (a ≡ c) × (b ≡ d)
same_parts a b c d e l = (
  sym (take_at a b (length c) l) ∙ ap (take (length c)) e ∙ take_at c d (length c) refl,
  sym (drop_at a b (length c) l) ∙ ap (drop (length c)) e ∙ drop_at c d (length c) refl,
)

pub same_parts_from_end : (a b c d : List ℕ) → a ++ b ≡ c ++ d → length b ≡ length d → (a ≡ c) × (b ≡ d)
same_parts_from_end a b c d e l = same_parts a b c d e (omega (arith, length-append a b, length-append c d, ap length e))

-- a list of entries has none, one or more
pub data Count (es : List Entry) : Type 0 where
  none : es ≡ [] → Count es
  one : (e : Entry) → es ≡ e ∷ [] → Count es
  more : 2 ≤ length es → Count es

pub count_of : (es : List Entry) → Count es
count_of [] = none refl
count_of (e ∷ []) = one e refl
count_of (e ∷ f ∷ es) = more (omega arith)

-- the string of a node is that of two or more entries with bits left
pub node_inverse : (left : ℕ) (m : Entries) (rest : List ℕ) → string_below left m ≡ 2 ∷ rest → Count (entries m) → (below : ℕ) × (left ≡ suc below) × (2 ≤ length (entries m))
node_inverse left m rest e (none n) = absurd (omega (arith, ap (λ s. get_or s 0 0) (sym (string-none left m n) ∙ e)))
node_inverse left m rest e (one f n) = absurd (omega (arith, ap (λ s. get_or s 0 0) (sym (string-one left m f n) ∙ e)))
node_inverse zero m rest e (more n) = absurd (omega (arith, ap (λ s. get_or s 0 0) (sym (string-end m n) ∙ e)))
node_inverse (suc left) m rest e (more n) = (left, refl, n)

-- a set of entries in which the key has the same value, and what it hashes
pub record Foot (m : Entries) (key foot : List ℕ) : Type 0 where
  pub bits : ℕ
  pub part : Entries
  pub is_string : string_below bits part ≡ foot
  pub same : get part key ≡ get m key
  pub within : (q v : List ℕ) → get part q ≡ Some v → get m q ≡ Some v

pub within-half : (depth side : ℕ) (m : Entries) (q v : List ℕ) → get (half depth side m) q ≡ Some v → get m q ≡ Some v
within-half depth side m q v there =
    elim (eqb (bit q depth) side) as (λ b. cond b (get m q) None ≡ Some v → get m q ≡ Some v) [
      | true ↦ λ h. h
      | false ↦ λ h. absurd (cc)
    ] (sym (get-half depth side m q) ∙ there)

-- a foot in the key's half is one in the whole
pub foot-half : (depth : ℕ) (key : List ℕ) (m : Entries) (side : ℕ) (foot : List ℕ) → bit key depth ≡ side → Foot (half depth side m) key foot → Foot m key foot
foot-half depth key m side foot at f = record {
  bits = f.bits;
  part = f.part;
  is_string = f.is_string;
  same = f.same ∙ get-here depth side m key at;
  within = λ q v h. within-half depth side m q v (f.within q v h);
}

pub value-length : (depth : ℕ) (key foot : List ℕ) (tops : List (List ℕ)) → length (value_down depth key (sha256 foot) tops) ≡ 32
value-length depth key foot [] = length-sha256 foot
value-length depth key foot (s ∷ ss) = length-sha256 _

-- what the strings of a node's halves are part of
pub strings-half : (left depth : ℕ) (m : Entries) (side : ℕ) → left + depth ≡ 255 → 2 ≤ length (entries m) → (side ≡ 0) ⊎ (side ≡ 1)
    → (x : List ℕ) → IsIn (strings_below left (half depth side m)) x → IsIn (strings_below (suc left) m) x
strings-half left depth m side at several (inl z) x i = rw (strings-more left depth m at several) (inr (in_front _ _ x (rw z at i)))
strings-half left depth m side at several (inr o) x i = rw (strings-more left depth m at several) (inr (in_rest _ _ x (rw o at i)))

-- the side of a node on which a value of the path stands
record Side (left depth : ℕ) (m : Entries) (key v : List ℕ) : Type 0 where
  pub below : ℕ
  pub is_below : left ≡ suc below
  pub several : 2 ≤ length (entries m)
  pub side : ℕ
  pub at : bit key depth ≡ side
  pub zero_or_one : (side ≡ 0) ⊎ (side ≡ 1)
  pub value : v ≡ digest_below below (half depth side m)

side_of : (left depth : ℕ) (m : Entries) (key v s : List ℕ) → left + depth ≡ 256 → length v ≡ 32 → string_below left m ≡ joined key depth v s → Side left depth m key v
side_of left depth m key v s at long own =
    elim (eqb (bit key depth) 0) as (λ b. eqb (bit key depth) 0 ≡ b → string_below left m ≡ cond b (node_string v s) (node_string s v) → Side left depth m key v) [
      | true ↦ λ t e.
          let inv = node_inverse left m (v ++ s) e (count_of (entries m)) in
          let whole = string-more inv.0 depth m (omega (arith, inv.1)) inv.2 in
          let parts = same_parts v s _ _ (ap (drop 1) (sym e ∙ ap (λ n. string_below n m) inv.1 ∙ whole)) (long ∙ sym (length-sha256 (string_below inv.0 (half depth 0 m)))) in
          record { below = inv.0; is_below = inv.1; several = inv.2; side = 0; at = eqb-true _ _ t; zero_or_one = inl refl; value = parts.0 }
      | false ↦ λ t e.
          let inv = node_inverse left m (s ++ v) e (count_of (entries m)) in
          let whole = string-more inv.0 depth m (omega (arith, inv.1)) inv.2 in
          let parts = same_parts_from_end s v _ _ (ap (drop 1) (sym e ∙ ap (λ n. string_below n m) inv.1 ∙ whole)) (long ∙ sym (length-sha256 (string_below inv.0 (half depth 1 m)))) in
          record { below = inv.0; is_below = inv.1; several = inv.2; side = 1; at = eqb-true _ _ (one_at key depth false t); zero_or_one = inr refl; value = parts.1 }
    ] refl own

pub lands : (tops : List (List ℕ)) (left depth : ℕ) → left + depth ≡ 256 → (m : Entries) (key foot : List ℕ) (strings : List (List ℕ)) → Apart strings
    → ((x : List ℕ) → IsIn (strings_below left m) x → IsIn strings x)
    → ((x : List ℕ) → IsIn (strings_down depth key (sha256 foot) tops) x → IsIn strings x)
    → IsIn strings foot → value_down depth key (sha256 foot) tops ≡ digest_below left m → Foot m key foot
lands [] left depth at m key foot strings apart of_map of_path here e = record {
  bits = left;
  part = m;
  is_string = apart _ _ (of_map _ (strings-own left m)) here (sym e);
  same = refl;
  within = λ q v h. h;
}
lands (s ∷ ss) left depth at m key foot strings apart of_map of_path here e =
    let own : string_below left m ≡ joined key depth (value_down (suc depth) key (sha256 foot) ss) s
    = sym (apart _ _ (of_path _ (inl refl)) (of_map _ (strings-own left m)) e) in
    let at_side = side_of left depth m key (value_down (suc depth) key (sha256 foot) ss) s at (value-length (suc depth) key foot ss) own in
    let in_half : (x : List ℕ) → IsIn (strings_below at_side.below (half depth at_side.side m)) x → IsIn strings x
    = λ x i. of_map x (rw at_side.is_below (strings-half at_side.below depth m at_side.side (omega (arith, at_side.is_below)) at_side.several at_side.zero_or_one x i)) in
    foot-half depth key m at_side.side foot at_side.at
    (lands ss at_side.below (suc depth) (omega (arith, at_side.is_below)) (half depth at_side.side m) key foot strings apart in_half (λ x i. of_path x (inr i)) here at_side.value)
