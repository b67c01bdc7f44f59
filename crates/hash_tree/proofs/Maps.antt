-- The map that a list of entries makes, and its halves.
use Rattle.std.proofs.Common.{◌≡◌, ℕ, zero, suc, ◌+◌, ◌<◌, ◌≤◌, List, [], ◌∷◌, length, get_or, eq-eqb, take, drop, refl, sym, ap, ◌∙◌, subst, ⊎_elim, arith, Bool, true, false, cond, eqb, Some, None}
use Rattle.std.specs.Prelude.{IsTrue, is_some, filter, All}
use Rattle.std.specs.declared.cmp.Ordering.{Ordering}
use Rattle.std.specs.declared.cmp.Ordering.TheVariants.{Less, Equal, Greater}
use Rattle.std.specs.Ordering.{eq_by_cmp, is_eq, is_lt}
use Rattle.std.specs.Cmp.{IsTotalOrder, tied_itself}
use Rattle.std.specs.FinMap.{get, contains_key, from_sorted, entries, is_sorted, find, IsAntisymmetric, slice_cmp-IsAntisymmetric, nat_cmp-IsAntisymmetric, same_map, get-from_entries, get-from_sorted, entries-from_sorted, get-retain_keys}
use Rattle.std.specs.FinMap.Entries.{find-where_key, is_sorted-where_key, below_all}
use Rattle.std.proofs.lemmas.Cmp.{nat_list_cmp_total}
use Rattle.std.proofs.lemmas.Nat.Bits.{bit_at-lt}
use Rattle.std.proofs.lemmas.Bool.{cases_lt, eqb-true, and_parts}
use Rattle.std.proofs.lemmas.Float.{T_from_true}
use Rattle.ar_base.proofs.Digests.{bytes_by_recursion}
use lib.Dec.{T}
use lib.Ieee.Bits.{is_true}
use Rattle.ar_base.specs.Bytes.{IsDigest}
use Rattle.hash_tree.specs.Entries.{Entry, Entries, key_cmp, entries_of, HasAscendingKeys, bit, Agree, AgreeAmong, half, of_side}
use Rattle.hash_tree.proofs.KeyBits.{same_keys, lesser_key}

pub total : IsTotalOrder key_cmp
total = nat_list_cmp_total

-- keys that tie are one
pub exact : IsAntisymmetric key_cmp
exact = slice_cmp-IsAntisymmetric nat_cmp-IsAntisymmetric

-- ascending entries are those of the map that they make
pub entries-entries_of : (es : List Entry) → HasAscendingKeys es → entries (entries_of es) ≡ es
entries-entries_of es ascending =
    let sorted : T (is_sorted key_cmp es) = T_from_true _ ascending in
    let same : entries_of es ≡ from_sorted es = same_map total exact _ _ (λ q. get-from_entries total es q ∙ sym (get-from_sorted key_cmp es q sorted)) in
    ap entries same ∙ entries-from_sorted key_cmp es sorted

-- a half at a key
pub get-half : (t side : ℕ) (m : Entries) (q : List ℕ) → get (half t side m) q ≡ cond (eqb (bit q t) side) (get m q) None
get-half t side m q = get-retain_keys m (λ key. eqb (bit key t) side) q (λ x e. ap (λ key. eqb (bit key t) side) (sym (exact q x e)))

-- the half of the map that entries make is that of their half
pub half-entries_of : (t side : ℕ) (es : List Entry) → half t side (entries_of es) ≡ entries_of (of_side t side es)
half-entries_of t side es = same_map total exact _ _ (λ q.
    get-half t side (entries_of es) q
    ∙ ap (λ v. cond (eqb (bit q t) side) v None) (get-from_entries total es q)
    ∙ sym (get-from_entries total (of_side t side es) q ∙ find-where_key key_cmp (λ key. eqb (bit key t) side) q (λ x e. ap (λ key. eqb (bit key t) side) (sym (exact q x e))) es))

-- a half of ascending entries ascends
pub ascending-of_side : (t side : ℕ) (es : List Entry) → HasAscendingKeys es → HasAscendingKeys (of_side t side es)
ascending-of_side t side es ascending = is_true _ (is_sorted-where_key key_cmp (λ key. eqb (bit key t) side) es (T_from_true _ ascending))

-- the keys of a half are those of the whole, and have the bit
pub key-half : (t side : ℕ) (m : Entries) (q : List ℕ) → IsTrue (contains_key (half t side m) q) → IsTrue (contains_key m q) × (bit q t ≡ side)
key-half t side m q there =
    let here : is_some (cond (eqb (bit q t) side) (get m q) None) ≡ true = ap is_some (sym (get-half t side m q)) ∙ there in
    elim (eqb (bit q t) side) as (λ b. eqb (bit q t) side ≡ b → is_some (cond b (get m q) None) ≡ true → IsTrue (contains_key m q) × (bit q t ≡ side)) [
      | true ↦ λ e h. (h, eqb-true _ _ e)
      | false ↦ λ e h. absurd (cc)
    ] refl here

-- keys that agree agree in one more bit in each half
pub agree-half : (t side : ℕ) (m : Entries) → AgreeAmong t m → AgreeAmong (t + 1) (half t side m)
agree-half t side m agree key other k o i l =
    let a = key-half t side m key k in
    let b = key-half t side m other o in
    ⊎_elim (λ (below : i < t). agree key other a.0 b.0 i below)
    (λ (above : t ≤ i). let at : i ≡ t = omega arith in rw at (a.1 ∙ sym b.1))
    (cases_lt i t)

pub less_is : (o : Ordering) → is_lt o ≡ true → o ≡ Less
less_is Less h = refl
less_is Equal h = absurd (cc)
less_is Greater h = absurd (cc)

-- each entry of a list has a key in the map that the list makes
pub entry_there : (es : List Entry) (k : ℕ) (d : Entry) → k < length es → IsTrue (is_some (find key_cmp (get_or es k d).0 es))
entry_there [] k d h = absurd (omega arith)
entry_there (e ∷ es) zero d h = rw (ap is_eq (tied_itself total e.0))
entry_there (e ∷ es) (suc k) d h =
    elim (eq_by_cmp key_cmp (get_or es k d).0 e.0) as (λ b. IsTrue (is_some (cond b (Some e.1) (find key_cmp (get_or es k d).0 es)))) [
      | true ↦ refl
      | false ↦ entry_there es k d (omega arith)
    ]

pub key_there : (es : List Entry) (k : ℕ) (d : Entry) → k < length es → IsTrue (contains_key (entries_of es) (get_or es k d).0)
key_there es k d h = ap is_some (get-from_entries total es (get_or es k d).0) ∙ entry_there es k d h

below_at : (x : List ℕ) (es : List Entry) → below_all key_cmp x es ≡ true → (k : ℕ) (d : Entry) → k < length es → key_cmp x (get_or es k d).0 ≡ Less
below_at x [] h k d l = absurd (omega arith)
below_at x (e ∷ es) h zero d l = less_is _ (and_parts _ _ h).0
below_at x (e ∷ es) h (suc k) d l = below_at x es (and_parts _ _ h).1 k d (omega arith)

-- of two places in ascending entries, the earlier has the lesser key
pub in_order : (es : List Entry) → HasAscendingKeys es → (i j : ℕ) (d : Entry) → i < j → j < length es → key_cmp (get_or es i d).0 (get_or es j d).0 ≡ Less
in_order [] h i j d l m = absurd (omega arith)
in_order (e ∷ es) h i zero d l m = absurd (omega arith)
in_order (e ∷ es) h zero (suc j) d l m = below_at e.0 es (and_parts _ _ h).0 j d (omega arith)
in_order (e ∷ es) h (suc i) (suc j) d l m = in_order es (and_parts _ _ h).1 i j d (omega arith) (omega arith)

-- two keys that agree in all 256 bits are one
pub same_digests : (x y : List ℕ) → IsDigest x → IsDigest y → Agree 256 x y → x ≡ y
same_digests x y dx dy same =
    same_keys x y (bytes_by_recursion x dx.bytes) (bytes_by_recursion y dy.bytes) (dx.len ∙ sym dy.len) (λ i l. same i (omega (arith, dx.len)))

-- so two or more entries are left only before the last bit
pub depth_below : (es : List Entry) (depth : ℕ) → HasAscendingKeys es → All (λ e. IsDigest e.0) es → AgreeAmong depth (entries_of es) → 2 ≤ length es → depth ≤ 256 → depth < 256
depth_below [] depth ascending digests agree several h = absurd (omega arith)
depth_below (e ∷ es) depth ascending digests agree several h =
    ⊎_elim (λ l. l)
    (λ (full : 256 ≤ depth).
    let one : 1 < length (e ∷ es) = several in
    let same : e.0 ≡ (get_or (e ∷ es) 1 e).0 = same_digests _ _ (digests 0 e (omega arith)) (digests 1 e one)
    (λ i l. agree _ _ (key_there (e ∷ es) 0 e (omega arith)) (key_there (e ∷ es) 1 e one) i (omega arith)) in
    let less : key_cmp e.0 (get_or (e ∷ es) 1 e).0 ≡ Less = in_order (e ∷ es) ascending 0 1 e (omega arith) one in
    let tied : key_cmp e.0 e.0 ≡ Equal = tied_itself total e.0 in
    let tied2 : key_cmp e.0 (get_or (e ∷ es) 1 e).0 ≡ Equal = subst (λ k. key_cmp e.0 k ≡ Equal) same tied in
    absurd (cc))
    (cases_lt depth 256)

-- no key whose bit is 0 comes after one whose bit is 1
pub partitioned : (es : List Entry) (t : ℕ) → HasAscendingKeys es → All (λ e. IsDigest e.0) es → AgreeAmong t (entries_of es)
    → (i j : ℕ) (d : Entry) → i ≤ j → j < length es → eqb (bit (get_or es j d).0 t) 0 ≡ true → eqb (bit (get_or es i d).0 t) 0 ≡ true
partitioned es t ascending digests agree i j d le l zero_there =
    ⊎_elim
    (λ (before : i < j).
    let di : IsDigest (get_or es i d).0 = digests i d (omega arith) in
    let dj : IsDigest (get_or es j d).0 = digests j d l in
    eq-eqb _ _ (lesser_key (get_or es i d).0 (get_or es j d).0 (bytes_by_recursion _ di.bytes) (bytes_by_recursion _ dj.bytes) (di.len ∙ sym dj.len)
    (in_order es ascending i j d before l) t (agree _ _ (key_there es i d (omega arith)) (key_there es j d l)) (eqb-true _ _ zero_there)))
    (λ (after : j ≤ i). let at : i ≡ j = omega arith in rw at zero_there)
    (cases_lt i j)

-- where a test holds up to a place and fails from there on, the front is what passes it
pub take-filter : (p : Entry → Bool) (es : List Entry) (i : ℕ) → i ≤ length es
    → ((k : ℕ) (d : Entry) → k < i → p (get_or es k d) ≡ true) → ((k : ℕ) (d : Entry) → i ≤ k → k < length es → p (get_or es k d) ≡ false) → take i es ≡ filter p es
take-filter p [] zero h front rest = refl
take-filter p [] (suc i) h front rest = absurd (omega arith)
take-filter p (e ∷ es) zero h front rest =
    let later = take-filter p es zero (omega arith) (λ k d l. absurd (omega arith)) (λ k d l m. rest (suc k) d (omega arith) (omega arith)) in
    let here : p e ≡ false = rest 0 e (omega arith) (omega arith) in
    rw here later
take-filter p (e ∷ es) (suc i) h front rest =
    let later = take-filter p es i (omega arith) (λ k d l. front (suc k) d (omega arith)) (λ k d l m. rest (suc k) d (omega arith) (omega arith)) in
    let here : p e ≡ true = front 0 e (omega arith) in
    rw here (ap (λ xs. e ∷ xs) later)

-- where it fails up to a place and holds from there on, the rest is
pub drop-filter : (p : Entry → Bool) (es : List Entry) (i : ℕ) → i ≤ length es
    → ((k : ℕ) (d : Entry) → k < i → p (get_or es k d) ≡ false) → ((k : ℕ) (d : Entry) → i ≤ k → k < length es → p (get_or es k d) ≡ true) → drop i es ≡ filter p es
drop-filter p [] zero h front rest = refl
drop-filter p [] (suc i) h front rest = absurd (omega arith)
drop-filter p (e ∷ es) zero h front rest =
    let later = drop-filter p es zero (omega arith) (λ k d l. absurd (omega arith)) (λ k d l m. rest (suc k) d (omega arith) (omega arith)) in
    let here : p e ≡ true = rest 0 e (omega arith) (omega arith) in
    rw here (ap (λ xs. e ∷ xs) later)
drop-filter p (e ∷ es) (suc i) h front rest =
    let later = drop-filter p es i (omega arith) (λ k d l. front (suc k) d (omega arith)) (λ k d l m. rest (suc k) d (omega arith) (omega arith)) in
    let here : p e ≡ false = front 0 e (omega arith) in
    rw here later

-- a bit is 1 where it is not 0
pub one_for_zero : (n : ℕ) → n < 2 → (b : Bool) → eqb n 0 ≡ b → eqb n 1 ≡ cond b false true
one_for_zero zero l true h = refl
one_for_zero zero l false h = absurd (cc)
one_for_zero (suc zero) l true h = absurd (cc)
one_for_zero (suc zero) l false h = refl
one_for_zero (suc (suc n)) l b h = absurd (omega arith)

pub one_at : (key : List ℕ) (t : ℕ) (b : Bool) → eqb (bit key t) 0 ≡ b → eqb (bit key t) 1 ≡ cond b false true
one_at key t b h = one_for_zero (bit key t) (bit_at-lt _ _) b h
