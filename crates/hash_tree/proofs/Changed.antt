-- The halves of a map, one entry more, one entry less, and how many entries are left.
use Rattle.std.proofs.Common.{◌≡◌, ◌≢◌, ℕ, ◌≤◌, List, [], ◌∷◌, length, eq-eqb, refl, sym, ap, ◌∙◌, arith, Bool, true, false, cond, eqb, Option, Some, None}
use Rattle.std.specs.Prelude.{IsTrue, is_some}
use Rattle.std.specs.Ordering.{eq_by_cmp, is_eq}
use Rattle.std.specs.Cmp.{tied_itself, Equal-is}
use Rattle.std.specs.FinMap.{get, contains_key, insert, remove, entries, find, same_map, get-entries, get-insert, get-remove}
use Rattle.std.proofs.lemmas.Bool.{ne_eqb}
use Rattle.hash_tree.specs.Entries.{Entry, Entries, key_cmp, bit, half}
use Rattle.hash_tree.proofs.Maps.{total, exact, get-half}

-- keys that the order ties are one, and a key ties with itself
pub same_key : (q k : List ℕ) → eq_by_cmp key_cmp q k ≡ true → q ≡ k
same_key q k e = exact q k ((Equal-is _).0 e)

pub own_key : (q : List ℕ) → eq_by_cmp key_cmp q q ≡ true
own_key q = ap is_eq (tied_itself total q)

pub untied : (q k : List ℕ) → q ≢ k → eq_by_cmp key_cmp q k ≡ false
untied q k other = from_test (eq_by_cmp key_cmp q k) refl
  where
    from_test : (b : Bool) → eq_by_cmp key_cmp q k ≡ b → b ≡ false
    from_test true e = absurd (other (same_key q k e))
    from_test false e = refl

-- a half at a key that has the bit, and at one that does not
pub get-here : (t side : ℕ) (m : Entries) (q : List ℕ) → bit q t ≡ side → get (half t side m) q ≡ get m q
get-here t side m q e = get-half t side m q ∙ ap (λ b. cond b (get m q) None) (eq-eqb _ _ e)

pub get-elsewhere : (t side : ℕ) (m : Entries) (q : List ℕ) → bit q t ≢ side → get (half t side m) q ≡ None
get-elsewhere t side m q e = get-half t side m q ∙ ap (λ b. cond b (get m q) None) (ne_eqb _ _ e)

-- the half that has the key's bit takes the entry in
pub half-put : (t side : ℕ) (m : Entries) (key value : List ℕ) → bit key t ≡ side → half t side (insert m key value) ≡ insert (half t side m) key value
half-put t side m key value has = same_map total exact _ _ (λ q.
    get-half t side (insert m key value) q
    ∙ ap (λ v. cond (eqb (bit q t) side) v None) (get-insert total m key value q)
    ∙ at q (eq_by_cmp key_cmp q key) refl
    ∙ sym (get-insert total (half t side m) key value q ∙ ap (cond (eq_by_cmp key_cmp q key) (Some value)) (get-half t side m q)))
  where
    at : (q : List ℕ) (b : Bool) → eq_by_cmp key_cmp q key ≡ b
        → cond (eqb (bit q t) side) (cond b (Some value) (get m q)) None ≡ cond b (Some value) (cond (eqb (bit q t) side) (get m q) None)
    at q true e = ap (λ b. cond b (Some value) None) (eq-eqb _ _ (ap (λ k. bit k t) (same_key q key e) ∙ has))
    at q false e = refl

-- and the other stays
pub half-not_put : (t side : ℕ) (m : Entries) (key value : List ℕ) → bit key t ≢ side → half t side (insert m key value) ≡ half t side m
half-not_put t side m key value lacks = same_map total exact _ _ (λ q.
    get-half t side (insert m key value) q
    ∙ ap (λ v. cond (eqb (bit q t) side) v None) (get-insert total m key value q)
    ∙ at q (eq_by_cmp key_cmp q key) refl
    ∙ sym (get-half t side m q))
  where
    at : (q : List ℕ) (b : Bool) → eq_by_cmp key_cmp q key ≡ b
        → cond (eqb (bit q t) side) (cond b (Some value) (get m q)) None ≡ cond (eqb (bit q t) side) (get m q) None
    at q true e =
        let no : eqb (bit q t) side ≡ false = ap (λ k. eqb (bit k t) side) (same_key q key e) ∙ ne_eqb _ _ lacks in
        ap (λ b. cond b (Some value) None) no ∙ sym (ap (λ b. cond b (get m q) None) no)
    at q false e = refl

-- so it is where an entry goes out
pub half-cut : (t side : ℕ) (m : Entries) (key : List ℕ) → half t side (remove m key) ≡ remove (half t side m) key
half-cut t side m key = same_map total exact _ _ (λ q.
    get-half t side (remove m key) q
    ∙ ap (λ v. cond (eqb (bit q t) side) v None) (get-remove total m key q)
    ∙ at (eqb (bit q t) side) (eq_by_cmp key_cmp q key) (get m q)
    ∙ sym (get-remove total (half t side m) key q ∙ ap (cond (eq_by_cmp key_cmp q key) None) (get-half t side m q)))
  where
    at : (a b : Bool) (o : Option (List ℕ)) → cond a (cond b None o) None ≡ cond b None (cond a o None)
    at true b o = refl
    at false true o = refl
    at false false o = refl

pub half-not_cut : (t side : ℕ) (m : Entries) (key : List ℕ) → bit key t ≢ side → half t side (remove m key) ≡ half t side m
half-not_cut t side m key lacks = same_map total exact _ _ (λ q.
    get-half t side (remove m key) q
    ∙ ap (λ v. cond (eqb (bit q t) side) v None) (get-remove total m key q)
    ∙ at q (eq_by_cmp key_cmp q key) refl
    ∙ sym (get-half t side m q))
  where
    at : (q : List ℕ) (b : Bool) → eq_by_cmp key_cmp q key ≡ b
        → cond (eqb (bit q t) side) (cond b None (get m q)) None ≡ cond (eqb (bit q t) side) (get m q) None
    at q true e =
        let no : eqb (bit q t) side ≡ false = ap (λ k. eqb (bit k t) side) (same_key q key e) ∙ ne_eqb _ _ lacks in
        ap (λ b. cond b None None) no ∙ sym (ap (λ b. cond b (get m q) None) no)
    at q false e = refl

-- a map with two keys has two entries
pub several : (m : Entries) (a b : List ℕ) → IsTrue (contains_key m a) → IsTrue (contains_key m b) → a ≢ b → 2 ≤ length (entries m)
several m a b ha hb apart = from_list (entries m) (ap is_some (sym (get-entries m a)) ∙ ha) (ap is_some (sym (get-entries m b)) ∙ hb)
  where
    is_found : (e : Entry) (q : List ℕ) (t : Bool) → eq_by_cmp key_cmp q e.0 ≡ t → is_some (cond t (Some e.1) None) ≡ true → q ≡ e.0
    is_found e q true is h = same_key q e.0 is
    is_found e q false is h = absurd (cc)

    from_list : (es : List Entry) → is_some (find key_cmp a es) ≡ true → is_some (find key_cmp b es) ≡ true → 2 ≤ length es
    from_list [] ka kb = absurd (cc)
    from_list (e ∷ []) ka kb = absurd (apart (is_found e a _ refl ka ∙ sym (is_found e b _ refl kb)))
    from_list (e ∷ f ∷ es) ka kb = omega arith
