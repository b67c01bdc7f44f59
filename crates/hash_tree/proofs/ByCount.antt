-- The string and the digest of a set of entries, by how many there are.
use Rattle.std.proofs.Common.{◌≡◌, ℕ, zero, suc, ◌+◌, ◌-◌, ◌<◌, ◌≤◌, List, [], ◌∷◌, ◌++◌, length, get_or, refl, sym, ap, ◌∙◌, inl, arith}
use Rattle.std.specs.FinMap.{entries}
use Rattle.sha2.specs.Sha256.{sha256}
use Rattle.hash_tree.specs.Strings.{empty_string, entry_string, node_string, empty_digest, entry_digest, node_digest}
use Rattle.hash_tree.specs.Entries.{Entry, Entries, entries_of, HasAscendingKeys, AgreeAmong, half, of_side}
use Rattle.hash_tree.specs.Root.{by_count, string_below, strings_below, digest_below, subtree_digest}
use Rattle.ar_base.specs.Apart.{IsIn}
use Rattle.hash_tree.proofs.Maps.{entries-entries_of, half-entries_of, agree-half}

pub string-none : (left : ℕ) (m : Entries) → entries m ≡ [] → string_below left m ≡ empty_string
unfolding string_below
string-none zero m none = rw none
string-none (suc left) m none = rw none

pub string-one : (left : ℕ) (m : Entries) (e : Entry) → entries m ≡ e ∷ [] → string_below left m ≡ entry_string e.0 e.1
unfolding string_below
string-one zero m e one = rw one
string-one (suc left) m e one = rw one

pub by_count-more : {A : Type 0} (es : List Entry) (none : A) (one : Entry → A) (more : A) → 2 ≤ length es → by_count es none one more ≡ more
by_count-more [] none one more several = absurd (omega arith)
by_count-more (e ∷ []) none one more several = absurd (omega arith)
by_count-more (e ∷ f ∷ es) none one more several = refl

pub string-several : (left : ℕ) (m : Entries) → 2 ≤ length (entries m)
    → string_below (suc left) m ≡ node_string (digest_below left (half (255 - left) 0 m)) (digest_below left (half (255 - left) 1 m))
unfolding string_below
string-several left m several = by_count-more (entries m) _ _ _ several

pub string-more : (left depth : ℕ) (m : Entries) → left + depth ≡ 255 → 2 ≤ length (entries m)
    → string_below (suc left) m ≡ node_string (digest_below left (half depth 0 m)) (digest_below left (half depth 1 m))
string-more left depth m at several =
    let same : 255 - left ≡ depth = omega arith in
    rw same at (string-several left m several)

pub digest-none : (es : List Entry) (depth : ℕ) → length es < 1 → subtree_digest depth (entries_of es) ≡ empty_digest
digest-none [] depth none = ap sha256 (string-none (256 - depth) (entries_of []) (entries-entries_of [] refl))
digest-none (e ∷ es) depth none = absurd (omega arith)

pub digest-one : (es : List Entry) (depth : ℕ) (d : Entry) → HasAscendingKeys es → 1 ≤ length es → length es < 2
    → subtree_digest depth (entries_of es) ≡ entry_digest (get_or es 0 d).0 (get_or es 0 d).1
digest-one [] depth d ascending some one = absurd (omega arith)
digest-one (e ∷ []) depth d ascending some one = ap sha256 (string-one (256 - depth) (entries_of (e ∷ [])) e (entries-entries_of (e ∷ []) ascending))
digest-one (e ∷ f ∷ es) depth d ascending some one = absurd (omega arith)

pub digest-more : (es : List Entry) (depth : ℕ) → HasAscendingKeys es → 2 ≤ length es → depth < 256
    → subtree_digest depth (entries_of es) ≡ node_digest (subtree_digest (depth + 1) (entries_of (of_side depth 0 es))) (subtree_digest (depth + 1) (entries_of (of_side depth 1 es)))
digest-more es depth ascending several below =
    let left : 256 - depth ≡ suc (256 - (depth + 1)) = omega arith in
    let many : 2 ≤ length (entries (entries_of es)) = rw (entries-entries_of es ascending) several in
    let whole = string-more (256 - (depth + 1)) depth (entries_of es) (omega arith) many in
    ap (λ n. sha256 (string_below n (entries_of es))) left ∙ ap sha256 whole ∙ rw (half-entries_of depth 0 es, half-entries_of depth 1 es)

-- what the halves of entries keep
pub agree-of_side : (es : List Entry) (depth side : ℕ) → AgreeAmong depth (entries_of es) → AgreeAmong (depth + 1) (entries_of (of_side depth side es))
agree-of_side es depth side agree = rw half-entries_of at (agree-half depth side (entries_of es) agree)

-- the same, from what is known of the halves
pub digest-halves : (es : List Entry) (depth : ℕ) (left right : List Entry) (l r whole : List ℕ) → HasAscendingKeys es → 2 ≤ length es → depth < 256
    → left ≡ of_side depth 0 es → right ≡ of_side depth 1 es → l ≡ subtree_digest (depth + 1) (entries_of left) → r ≡ subtree_digest (depth + 1) (entries_of right)
    → whole ≡ node_digest l r → whole ≡ subtree_digest depth (entries_of es)
digest-halves es depth left right l r whole ascending several below is_left is_right hl hr h =
    let first = rw is_left at hl in
    let second = rw is_right at hr in
    h ∙ rw (first, second) (sym (digest-more es depth ascending several below))

-- at the end more than one entry would have no string
pub string-end : (m : Entries) → 2 ≤ length (entries m) → string_below zero m ≡ []
unfolding string_below
string-end m several = by_count-more (entries m) _ _ _ several

-- the strings of a set begin with its own
pub strings-own : (left : ℕ) (m : Entries) → IsIn (strings_below left m) (string_below left m)
unfolding strings_below
strings-own zero m = inl refl
strings-own (suc left) m = inl refl

-- and have those of its halves
pub strings-more : (left depth : ℕ) (m : Entries) → left + depth ≡ 255 → 2 ≤ length (entries m)
    → strings_below (suc left) m ≡ string_below (suc left) m ∷ (strings_below left (half depth 0 m) ++ strings_below left (half depth 1 m))
unfolding strings_below
strings-more left depth m at several =
    let same : 255 - left ≡ depth = omega arith in
    ap (λ rest. string_below (suc left) m ∷ rest) (by_count-more (entries m) _ _ _ several) ∙ rw same
