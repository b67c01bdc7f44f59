-- An accepted path tells the truth, and equal roots bind, where no strings collide.
use Rattle.std.proofs.Common.{◌≡◌, ℕ, zero, suc, ◌+◌, List, [], ◌∷◌, ◌++◌, length, get_or, drop, refl, sym, ap, ◌∙◌, subst, inl, inr, arith, Bool, true, false, eqb, Some, None}
use Rattle.std.specs.Prelude.{IsTrue}
use Rattle.std.specs.FinMap.{get, entries, same_entries_map, same_map}
use Rattle.std.proofs.lemmas.Bool.{eqb-true}
use Rattle.sha2.specs.Sha256.{sha256}
use Rattle.sha2.proofs.Facts256.{length-sha256}
use Rattle.hash_tree.specs.Strings.{empty_string, entry_string}
use Rattle.ar_base.specs.Bytes.{IsDigest}
use Rattle.hash_tree.specs.Entries.{Entry, Entries, bit, half, HoldsDigests, AgreeAmong}
use Rattle.hash_tree.specs.Root.{string_below, digest_below, strings_below, root, strings_of}
use Rattle.ar_base.specs.Apart.{none_collide, IsIn, Apart}
use Rattle.hash_tree.proofs.Maps.{total, exact, one_at, agree-half}
use Rattle.hash_tree.proofs.ByCount.{string-none, string-one, string-end, string-more, string-several, strings-own}
use Rattle.ar_base.proofs.Apart.{apart, in_front, in_rest}
use Rattle.hash_tree.specs.declared.bottom.Bottom.{Bottom}
use Rattle.hash_tree.specs.declared.bottom.Bottom.TheVariants.{Empty, Other}
use Rattle.tree_proof.specs.Membership.{On, Off, LeadsTo, HasDigestKey, bottom_string, path_strings}
use Rattle.tree_proof.proofs.Down.{turned, path_value-down, strings_down-above}
use Rattle.hash_tree.proofs.Few.{get-none, get-one, get-other, few_left}
use Rattle.hash_tree.proofs.Changed.{get-here}
use Rattle.tree_proof.proofs.Lands.{Count, none, one, more, count_of, Foot, lands, same_parts, within-half, strings-half}

-- the string of no entry is that of the empty set alone
empty_inverse : (bits : ℕ) (m : Entries) → string_below bits m ≡ empty_string → Count (entries m) → entries m ≡ []
empty_inverse bits m e (none n) = n
empty_inverse bits m e (one f n) = absurd (omega (arith, ap (λ s. get_or s 0 0) (sym (string-one bits m f n) ∙ e)))
empty_inverse zero m e (more n) = absurd (omega (arith, ap length (sym (string-end m n) ∙ e)))
empty_inverse (suc bits) m e (more n) = absurd (omega (arith, ap (λ s. get_or s 0 0) (sym (string-several bits m n) ∙ e)))

-- the string of an entry is that of this entry alone
entry_inverse : (bits : ℕ) (m : Entries) (key value : List ℕ) → HoldsDigests m → IsDigest key → string_below bits m ≡ entry_string key value → Count (entries m)
    → (f : Entry) × (entries m ≡ f ∷ []) × (f.0 ≡ key) × (f.1 ≡ value)
entry_inverse bits m key value digests dk e (none n) = absurd (omega (arith, ap (λ s. get_or s 0 0) (sym (string-none bits m n) ∙ e)))
entry_inverse bits m key value digests dk e (one f n) =
    let long = (digests f.0 f.1 (get-one m f n)).0.len in
    let parts = same_parts f.0 f.1 key value (ap (drop 1) (sym (string-one bits m f n) ∙ e)) (long ∙ sym dk.len) in
    (f, n, parts.0, parts.1)
entry_inverse zero m key value digests dk e (more n) = absurd (omega (arith, ap length (sym (string-end m n) ∙ e)))
entry_inverse (suc bits) m key value digests dk e (more n) = absurd (omega (arith, ap (λ s. get_or s 0 0) (sym (string-several bits m n) ∙ e)))

-- the foot of a path that leads to the root
foot_of : (m : Entries) (key foot : List ℕ) (steps : List (List ℕ)) → IsTrue (none_collide (strings_of m ++ path_strings key foot steps))
    → LeadsTo key foot steps (root m) → Foot m key foot
foot_of m key foot steps clean leads =
    let strings : List (List ℕ) = strings_of m ++ path_strings key foot steps in
    lands (turned steps) 256 0 refl m key foot strings (apart strings clean)
    (λ x i. in_front (strings_of m) _ x i)
    (λ x i. in_rest (strings_of m) _ x (inr (strings_down-above key (sha256 foot) steps x i)))
    (in_rest (strings_of m) _ foot (inl refl))
    (sym (path_value-down key (sha256 foot) steps) ∙ leads.1)

digests_within : (m n : Entries) → HoldsDigests m → ((q v : List ℕ) → get n q ≡ Some v → get m q ≡ Some v) → HoldsDigests n
digests_within m n digests within q v there = digests q v (within q v there)

pub presence : (m : Entries) (key value : List ℕ) (steps : List (List ℕ)) → HoldsDigests m → IsDigest key
    → IsTrue (none_collide (strings_of m ++ path_strings key (entry_string key value) steps)) → On key value steps (root m) → get m key ≡ Some value
presence m key value steps digests dk clean on =
    let f = foot_of m key (entry_string key value) steps clean on in
    let e = entry_inverse f.bits f.part key value (digests_within m f.part digests f.within) dk f.is_string (count_of (entries f.part)) in
    sym f.same ∙ ap (get f.part) (sym e.2) ∙ get-one f.part e.0 e.1 ∙ ap (λ v. Some v) e.3

pub absence : (m : Entries) (key : List ℕ) (bottom : Bottom) (steps : List (List ℕ)) → HoldsDigests m → IsDigest key → HasDigestKey bottom
    → IsTrue (none_collide (strings_of m ++ path_strings key (bottom_string bottom) steps)) → Off key bottom steps (root m) → get m key ≡ None
absence m key Empty steps digests dk db clean off =
    let f = foot_of m key empty_string steps clean off.0 in
    sym f.same ∙ get-none f.part key (empty_inverse f.bits f.part f.is_string (count_of (entries f.part)))
absence m key (Other other value) steps digests dk db clean off =
    let f = foot_of m key (entry_string other value) steps clean off.0 in
    let e = entry_inverse f.bits f.part other value (digests_within m f.part digests f.within) db f.is_string (count_of (entries f.part)) in
    sym f.same ∙ get-other f.part e.0 key e.1 (λ same. off.1.0 (sym e.2 ∙ same))

-- the halves of two sets together
from_halves : (depth : ℕ) (m n : Entries) → half depth 0 m ≡ half depth 0 n → half depth 1 m ≡ half depth 1 n → m ≡ n
from_halves depth m n left right = same_map total exact m n (λ q. at q (eqb (bit q depth) 0) refl)
  where
    at : (q : List ℕ) (b : Bool) → eqb (bit q depth) 0 ≡ b → get m q ≡ get n q
    at q true t =
        let side = eqb-true _ _ t in
        sym (get-here depth 0 m q side) ∙ ap (λ h. get h q) left ∙ get-here depth 0 n q side
    at q false t =
        let side = eqb-true _ _ (one_at q depth false t) in
        sym (get-here depth 1 m q side) ∙ ap (λ h. get h q) right ∙ get-here depth 1 n q side

pub digests-half : (depth side : ℕ) (m : Entries) → HoldsDigests m → HoldsDigests (half depth side m)
digests-half depth side m digests = digests_within m (half depth side m) digests (within-half depth side m)

same_sets : (left depth : ℕ) → left + depth ≡ 256 → (m n : Entries) → HoldsDigests m → HoldsDigests n → AgreeAmong depth m → AgreeAmong depth n
    → (strings : List (List ℕ)) → Apart strings → ((x : List ℕ) → IsIn (strings_below left m) x → IsIn strings x) → ((x : List ℕ) → IsIn (strings_below left n) x → IsIn strings x)
    → digest_below left m ≡ digest_below left n → Count (entries m) → Count (entries n) → m ≡ n
same_sets left depth at m n dm dn am an strings clean of_m of_n e (none p) cn =
    let own : string_below left m ≡ string_below left n = clean _ _ (of_m _ (strings-own left m)) (of_n _ (strings-own left n)) e in
    same_entries_map m n (p ∙ sym (empty_inverse left n (sym own ∙ string-none left m p) cn))
same_sets left depth at m n dm dn am an strings clean of_m of_n e (one f p) cn =
    let own : string_below left m ≡ string_below left n = clean _ _ (of_m _ (strings-own left m)) (of_n _ (strings-own left n)) e in
    let g = entry_inverse left n f.0 f.1 dn (dm f.0 f.1 (get-one m f p)).0 (sym own ∙ string-one left m f p) cn in
    let same : g.0 ≡ f = λ i. (g.2 i, g.3 i) in
    same_entries_map m n (p ∙ ap (λ h. h ∷ []) (sym same) ∙ sym g.1)
same_sets left depth at m n dm dn am an strings clean of_m of_n e (more p) (none q) =
    let own : string_below left m ≡ string_below left n = clean _ _ (of_m _ (strings-own left m)) (of_n _ (strings-own left n)) e in
    same_entries_map m n (empty_inverse left m (own ∙ string-none left n q) (more p) ∙ sym q)
same_sets left depth at m n dm dn am an strings clean of_m of_n e (more p) (one f q) =
    let own : string_below left m ≡ string_below left n = clean _ _ (of_m _ (strings-own left m)) (of_n _ (strings-own left n)) e in
    let g = entry_inverse left m f.0 f.1 dm (dn f.0 f.1 (get-one n f q)).0 (own ∙ string-one left n f q) (more p) in
    let same : g.0 ≡ f = λ i. (g.2 i, g.3 i) in
    same_entries_map m n (g.1 ∙ ap (λ h. h ∷ []) same ∙ sym q)
same_sets zero depth at m n dm dn am an strings clean of_m of_n e (more p) (more q) =
    absurd (few_left m dm (subst (λ d. AgreeAmong d m) (omega arith) am) p)
same_sets (suc left) depth at m n dm dn am an strings clean of_m of_n e (more p) (more q) =
    let own : string_below (suc left) m ≡ string_below (suc left) n = clean _ _ (of_m _ (strings-own (suc left) m)) (of_n _ (strings-own (suc left) n)) e in
    let low : left + depth ≡ 255 = omega arith in
    let nodes = sym (string-more left depth m low p) ∙ own ∙ string-more left depth n low q in
    let parts = same_parts _ _ _ _ (ap (drop 1) nodes) (length-sha256 (string_below left (half depth 0 m)) ∙ sym (length-sha256 (string_below left (half depth 0 n)))) in
    from_halves depth m n
    (same_sets left (depth + 1) (omega arith) (half depth 0 m) (half depth 0 n) (digests-half depth 0 m dm) (digests-half depth 0 n dn)
    (agree-half depth 0 m am) (agree-half depth 0 n an) strings clean
    (λ x i. of_m x (strings-half left depth m 0 low p (inl refl) x i)) (λ x i. of_n x (strings-half left depth n 0 low q (inl refl) x i)) parts.0 (count_of _) (count_of _))
    (same_sets left (depth + 1) (omega arith) (half depth 1 m) (half depth 1 n) (digests-half depth 1 m dm) (digests-half depth 1 n dn)
    (agree-half depth 1 m am) (agree-half depth 1 n an) strings clean
    (λ x i. of_m x (strings-half left depth m 1 low p (inr refl) x i)) (λ x i. of_n x (strings-half left depth n 1 low q (inr refl) x i)) parts.1 (count_of _) (count_of _))

pub equal_roots : (m n : Entries) → HoldsDigests m → HoldsDigests n → IsTrue (none_collide (strings_of m ++ strings_of n)) → root m ≡ root n → m ≡ n
equal_roots m n dm dn clean e =
    same_sets 256 0 refl m n dm dn (λ q r hq hr i l. absurd (omega arith)) (λ q r hq hr i l. absurd (omega arith)) _ (apart _ clean)
    (λ x i. in_front (strings_of m) _ x i) (λ x i. in_rest (strings_of m) _ x i) e (count_of _) (count_of _)
