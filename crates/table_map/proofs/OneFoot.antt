-- Two paths to one root, by keys with the same bits as far as both go, are equally long and have one foot, where no strings collide.
use Rattle.std.proofs.Common.{◌≡◌, ℕ, suc, ◌+◌, ◌<◌, List, [], ◌∷◌, length, get_or, drop, cond, eqb, true, false, refl, sym, ap, ◌∙◌, inl, inr, arith}
use Rattle.sha2.specs.Sha256.{sha256}
use Rattle.ar_base.specs.Apart.{Apart, IsIn}
use Rattle.hash_tree.specs.Entries.{bit}
use Rattle.hash_tree.specs.Strings.{node_string}
use Rattle.tree_proof.specs.Fold.{joined}
use Rattle.tree_proof.proofs.Down.{strings_down, value_down}
use Rattle.tree_proof.proofs.Lands.{same_parts, same_parts_from_end, value-length}

pub record OneFoot (tops others : List (List ℕ)) (one two : List ℕ) : Type 0 where
  pub same_length : length tops ≡ length others
  pub same_foot : one ≡ two

-- the string of an entry is no node's
not-node : (one key : List ℕ) (depth : ℕ) (v s : List ℕ) → 1 ∷ one ≡ joined key depth v s → ⊥
not-node one key depth v s e =
    elim (eqb (bit key depth) 0) as (λ b. 1 ∷ one ≡ cond b (node_string v s) (node_string s v) → ⊥) [
      | true ↦ λ h. absurd (omega (arith, ap (λ x. get_or x 0 0) h))
      | false ↦ λ h. absurd (omega (arith, ap (λ x. get_or x 0 0) h))
    ] e

-- of two nodes with one string, what stands on the side of a bit is the same
same-side : (key other : List ℕ) (depth : ℕ) (v w s r : List ℕ) → bit key depth ≡ bit other depth → length v ≡ 32 → length w ≡ 32 → joined key depth v s ≡ joined other depth w r → v ≡ w
same-side key other depth v w s r at long wide e =
    elim (eqb (bit key depth) 0) as (λ b. cond b (node_string v s) (node_string s v) ≡ cond b (node_string w r) (node_string r w) → v ≡ w) [
      | true ↦ λ h. (same_parts v s w r (ap (drop 1) h) (long ∙ sym wide)).0
      | false ↦ λ h. (same_parts_from_end s v r w (ap (drop 1) h) (long ∙ sym wide)).1
    ] (e ∙ ap (λ b. cond (eqb b 0) (node_string w r) (node_string r w)) (sym at))

pub one-foot : (tops others : List (List ℕ)) (depth : ℕ) (key other one two : List ℕ) (strings : List (List ℕ)) → Apart strings
    → ((x : List ℕ) → IsIn (strings_down depth key (sha256 (1 ∷ one)) tops) x → IsIn strings x)
    → ((x : List ℕ) → IsIn (strings_down depth other (sha256 (1 ∷ two)) others) x → IsIn strings x)
    → IsIn strings (1 ∷ one) → IsIn strings (1 ∷ two)
    → ((t : ℕ) → t < depth + length tops → t < depth + length others → bit key t ≡ bit other t)
    → value_down depth key (sha256 (1 ∷ one)) tops ≡ value_down depth other (sha256 (1 ∷ two)) others
    → OneFoot tops others one two
one-foot [] [] depth key other one two strings apart of_one of_two here there bits e =
    record { same_length = refl; same_foot = ap (drop 1) (apart (1 ∷ one) (1 ∷ two) here there e) }
one-foot [] (r ∷ rs) depth key other one two strings apart of_one of_two here there bits e =
    absurd (not-node one other depth (value_down (suc depth) other (sha256 (1 ∷ two)) rs) r (apart _ _ here (of_two _ (inl refl)) e))
one-foot (s ∷ ss) [] depth key other one two strings apart of_one of_two here there bits e =
    absurd (not-node two key depth (value_down (suc depth) key (sha256 (1 ∷ one)) ss) s (apart _ _ there (of_one _ (inl refl)) (sym e)))
one-foot (s ∷ ss) (r ∷ rs) depth key other one two strings apart of_one of_two here there bits e =
    let v = value_down (suc depth) key (sha256 (1 ∷ one)) ss in
    let w = value_down (suc depth) other (sha256 (1 ∷ two)) rs in
    let own : joined key depth v s ≡ joined other depth w r = apart _ _ (of_one _ (inl refl)) (of_two _ (inl refl)) e in
    let below : v ≡ w = same-side key other depth v w s r (bits depth (omega arith) (omega arith)) (value-length (suc depth) key (1 ∷ one) ss) (value-length (suc depth) other (1 ∷ two) rs) own in
    let rest = one-foot ss rs (suc depth) key other one two strings apart (λ x i. of_one x (inr i)) (λ x i. of_two x (inr i)) here there
    (λ t l m. bits t (omega (arith, l)) (omega (arith, m))) below in
    record { same_length = ap suc rest.same_length; same_foot = rest.same_foot }
