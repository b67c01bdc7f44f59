-- The path of a key leads from its bottom to the root, and its bottom says what the set has at the key.
use Rattle.std.proofs.Common.{◌≡◌, ◌≢◌, ℕ, zero, suc, ◌+◌, ◌-◌, ◌<◌, ◌≤◌, List, [], ◌∷◌, ◌++◌, length, length-append, refl, sym, ap, ◌∙◌, subst, ⊎_elim, arith, Bool, true, false, eqb, zero-add, Some, None}
use Rattle.std.specs.Prelude.{IsTrue, is_some}
use Rattle.std.specs.FinMap.{get, contains_key, entries}
use Rattle.std.proofs.lemmas.Bool.{cases_lt, eqb-true}
use Rattle.sha2.specs.Sha256.{sha256}
use Rattle.hash_tree.specs.Strings.{node_string}
use Rattle.hash_tree.specs.Entries.{Entry, Entries, bit, Agree, half, HoldsDigests, AgreeAmong}
use Rattle.hash_tree.specs.Root.{digest_below, root}
use Rattle.hash_tree.proofs.Maps.{one_at, agree-half, key-half}
use Rattle.hash_tree.proofs.ByCount.{string-none, string-one, string-more}
use Rattle.hash_tree.specs.declared.bottom.Bottom.TheVariants.{Empty, Other}
use Rattle.tree_proof.specs.Fold.{joined}
use Rattle.hash_tree.specs.Path.{bottom_below, bottom_of, steps_below, steps_of}
use Rattle.tree_proof.specs.Membership.{On, Off, LeadsTo, SpeaksOf, bottom_string}
use Rattle.tree_proof.proofs.Down.{turned, turned-push, value_down, path_value-down}
use Rattle.hash_tree.proofs.Few.{get-none, get-one, get-one_inverse, few_left}
use Rattle.tree_proof.proofs.Lands.{Count, none, one, more, count_of}
use Rattle.tree_proof.proofs.Bind.{digests-half}
use Rattle.hash_tree.proofs.Kept.{bottom-only}
use Rattle.hash_tree.proofs.Paths.{bottom-more, bottom-none, steps-few, steps-end, steps-more}
use Rattle.hash_tree.proofs.Changed.{get-here}

-- the two halves joined, whichever side the key's is on
joined-halves : (key : List ℕ) (depth : ℕ) (f : ℕ → List ℕ) → joined key depth (f (bit key depth)) (f (1 - bit key depth)) ≡ node_string (f 0) (f 1)
joined-halves key depth f = at (eqb (bit key depth) 0) refl
  where
    at : (b : Bool) → eqb (bit key depth) 0 ≡ b → joined key depth (f (bit key depth)) (f (1 - bit key depth)) ≡ node_string (f 0) (f 1)
    at true t = let side : bit key depth ≡ 0 = eqb-true _ _ t in rw side
    at false t = let side : bit key depth ≡ 1 = eqb-true _ _ (one_at key depth false t) in rw side

steps-of_none : (left : ℕ) (key : List ℕ) (m : Entries) → entries m ≡ [] → steps_below left key m ≡ []
steps-of_none left key m n = steps-few left key m (omega (arith, ap length n))

steps-of_one : (left : ℕ) (key : List ℕ) (m : Entries) (e : Entry) → entries m ≡ e ∷ [] → steps_below left key m ≡ []
steps-of_one left key m e n = steps-few left key m (omega (arith, ap length n))

bottom-of_none : (left : ℕ) (key : List ℕ) (m : Entries) → entries m ≡ [] → bottom_below left key m ≡ Empty
bottom-of_none left key m n = bottom-none left key m (omega (arith, ap length n))

-- a step of the path, at a depth
steps-at : (left depth : ℕ) (key : List ℕ) (m : Entries) → left + depth ≡ 255 → 2 ≤ length (entries m)
    → steps_below (suc left) key m ≡ steps_below left key (half depth (bit key depth) m) ++ digest_below left (half depth (1 - bit key depth) m) ∷ []
steps-at left depth key m at n =
    let here : 255 - left ≡ depth = omega arith in
    rw here at (steps-more left key m n)

bottom-at : (left depth : ℕ) (key : List ℕ) (m : Entries) → left + depth ≡ 255 → 2 ≤ length (entries m)
    → bottom_below (suc left) key m ≡ bottom_below left key (half depth (bit key depth) m)
bottom-at left depth key m at n =
    let here : 255 - left ≡ depth = omega arith in
    rw here at (bottom-more left key m n)

agree-next : (depth side : ℕ) (m : Entries) → AgreeAmong depth m → AgreeAmong (suc depth) (half depth side m)
agree-next depth side m agree = subst (λ d. AgreeAmong d (half depth side m)) (omega arith) (agree-half depth side m agree)

-- what the path leads up to is the digest
leads_up : (left depth : ℕ) → left + depth ≡ 256 → (m : Entries) (key : List ℕ) → HoldsDigests m → AgreeAmong depth m → Count (entries m)
    → value_down depth key (sha256 (bottom_string (bottom_below left key m))) (turned (steps_below left key m)) ≡ digest_below left m
leads_up left depth at m key digests agree (none n) =
    rw (steps-of_none left key m n, bottom-of_none left key m n, string-none left m n)
leads_up left depth at m key digests agree (one e n) =
    rw (steps-of_one left key m e n, bottom-only left key m e n, string-one left m e n)
leads_up zero depth at m key digests agree (more n) = absurd (few_left m digests (subst (λ d. AgreeAmong d m) (omega arith) agree) n)
leads_up (suc left) depth at m key digests agree (more n) =
    let low : left + depth ≡ 255 = omega arith in
    let same = half depth (bit key depth) m in
    let other = digest_below left (half depth (1 - bit key depth) m) in
    let later = leads_up left (suc depth) (omega arith) same key (digests-half depth (bit key depth) m digests) (agree-next depth (bit key depth) m agree) (count_of _) in
    let steps = ap turned (steps-at left depth key m low n) ∙ turned-push (steps_below left key same) other in
    let foot = ap (λ b. sha256 (bottom_string b)) (bottom-at left depth key m low n) in
    (λ i. value_down depth key (foot i) (steps i))
    ∙ ap (λ v. sha256 (joined key depth v other)) later
    ∙ ap sha256 (joined-halves key depth (λ side. digest_below left (half depth side m)) ∙ sym (string-more left depth m low n))

-- a path has no more steps than bits are left
steps-count : (left depth : ℕ) → left + depth ≡ 256 → (m : Entries) (key : List ℕ) → Count (entries m) → length (steps_below left key m) ≤ left
steps-count left depth at m key (none n) = omega (arith, ap length (steps-of_none left key m n))
steps-count left depth at m key (one e n) = omega (arith, ap length (steps-of_one left key m e n))
steps-count zero depth at m key (more n) = omega (arith, ap length (steps-end key m))
steps-count (suc left) depth at m key (more n) =
    let low : left + depth ≡ 255 = omega arith in
    let same = half depth (bit key depth) m in
    let later = steps-count left (suc depth) (omega arith) same key (count_of _) in
    omega (arith, ap length (steps-at left depth key m low n), length-append (steps_below left key same) (digest_below left (half depth (1 - bit key depth) m) ∷ []))

-- the bottom of the path of a key that is there is its entry
bottom-present : (left depth : ℕ) → left + depth ≡ 256 → (m : Entries) (key value : List ℕ) → HoldsDigests m → AgreeAmong depth m → get m key ≡ Some value → Count (entries m)
    → bottom_below left key m ≡ Other key value
bottom-present left depth at m key value digests agree there (none n) = let missing = get-none m key n in absurd (cc)
bottom-present left depth at m key value digests agree there (one e n) =
    let same = get-one_inverse m e key value n there in
    bottom-only left key m e n ∙ (λ i. Other (same.0 i) (same.1 i))
bottom-present zero depth at m key value digests agree there (more n) = absurd (few_left m digests (subst (λ d. AgreeAmong d m) (omega arith) agree) n)
bottom-present (suc left) depth at m key value digests agree there (more n) =
    let side = bit key depth in
    bottom-at left depth key m (omega arith) n
    ∙ bottom-present left (suc depth) (omega arith) (half depth side m) key value (digests-half depth side m digests) (agree-next depth side m agree)
    (get-here depth side m key refl ∙ there) (count_of _)

-- that of one that is not there is empty, or the entry of another key that agrees with it so far
bottom-absent : (left depth : ℕ) → left + depth ≡ 256 → (m : Entries) (key : List ℕ) → HoldsDigests m → AgreeAmong depth m
    → ((q : List ℕ) → IsTrue (contains_key m q) → Agree depth q key) → get m key ≡ None → Count (entries m)
    → SpeaksOf (bottom_below left key m) key (depth + length (steps_below left key m))
bottom-absent left depth at m key digests agree prefix missing (none n) = rw (bottom-of_none left key m n) tt
bottom-absent left depth at m key digests agree prefix missing (one e n) =
    let there = get-one m e n in
    let other : e.0 ≢ key = λ same. let here : get m key ≡ Some e.1 = ap (get m) (sym same) ∙ there in absurd (cc) in
    rw (bottom-only left key m e n, steps-of_one left key m e n) (other, λ i l. prefix e.0 (ap is_some there) i (omega arith))
bottom-absent zero depth at m key digests agree prefix missing (more n) = absurd (few_left m digests (subst (λ d. AgreeAmong d m) (omega arith) agree) n)
bottom-absent (suc left) depth at m key digests agree prefix missing (more n) =
    let side = bit key depth in
    let low : left + depth ≡ 255 = omega arith in
    let further : (q : List ℕ) → IsTrue (contains_key (half depth side m) q) → Agree (suc depth) q key
    = λ q there i l. let a = key-half depth side m q there in
    ⊎_elim (λ (before : i < depth). prefix q a.0 i before) (λ (after : depth ≤ i). let at : i ≡ depth = omega arith in rw at a.1) (cases_lt i depth) in
    let later = bottom-absent left (suc depth) (omega arith) (half depth side m) key (digests-half depth side m digests) (agree-next depth side m agree) further
    (get-here depth side m key refl ∙ missing) (count_of _) in
    let count : suc depth + length (steps_below left key (half depth side m)) ≡ depth + length (steps_below (suc left) key m)
    = omega (arith, ap length (steps-at left depth key m low n), length-append (steps_below left key (half depth side m)) (digest_below left (half depth (1 - side) m) ∷ [])) in
    rw (bottom-at left depth key m low n) (subst (SpeaksOf (bottom_below left key (half depth side m)) key) count later)

none_agreed : (m : Entries) → AgreeAmong 0 m
none_agreed m q r hq hr i l = absurd (omega arith)

leads_to_root : (m : Entries) (key : List ℕ) → HoldsDigests m → LeadsTo key (bottom_string (bottom_of key m)) (steps_of key m) (root m)
leads_to_root m key digests =
    (steps-count 256 0 refl m key (count_of _), path_value-down key _ (steps_of key m) ∙ leads_up 256 0 refl m key digests (none_agreed m) (count_of _))

pub presence_accepted : (m : Entries) (key value : List ℕ) → HoldsDigests m → get m key ≡ Some value → On key value (steps_of key m) (root m)
presence_accepted m key value digests there =
    subst (λ b. LeadsTo key (bottom_string b) (steps_of key m) (root m)) (bottom-present 256 0 refl m key value digests (none_agreed m) there (count_of _)) (leads_to_root m key digests)

pub absence_accepted : (m : Entries) (key : List ℕ) → HoldsDigests m → get m key ≡ None → Off key (bottom_of key m) (steps_of key m) (root m)
absence_accepted m key digests missing = (
  leads_to_root m key digests,
  subst (SpeaksOf (bottom_of key m) key) (zero-add (length (steps_of key m))) (bottom-absent 256 0 refl m key digests (none_agreed m) (λ q there i l. absurd (omega arith)) missing (count_of _)),
)
