-- Maps whose keys are digests of strings: what is found under a digest is found under its string, where no
-- strings collide. And strings that are names behind a byte.
use Rattle.std.proofs.Common.{◌≡◌, ◌≢◌, ℕ, List, [], ◌∷◌, ◌++◌, get_or, refl, sym, ap, ◌∙◌, inl, Bool, true, false, cond, Some, None}
use Rattle.std.specs.List.{AllByRecursion, flat_map}
use Rattle.std.specs.Option.{option_map, option_or}
use Rattle.std.specs.Ordering.{eq_by_cmp, is_eq, nat_cmp, ordering_then}
use Rattle.std.specs.Cmp.{tied_itself, nat_cmp_total}
use Rattle.std.specs.Cmp.Lexicographic.{slice_cmp}
use Rattle.std.specs.FinMap.{find}
use Rattle.sha2.specs.Sha256.{sha256}
use Rattle.ar_base.specs.Apart.{IsIn, Apart}
use Rattle.ar_base.proofs.Apart.{in_front, in_rest}
use Rattle.hash_tree.specs.Entries.{key_cmp}
use Rattle.hash_tree.proofs.Changed.{same_key, own_key}
use Rattle.domain_table.specs.Tree.{valued, keyed}

-- digests tie where their strings do
same_test : (strings : List (List ℕ)) → Apart strings → (s t : List ℕ) → IsIn strings s → IsIn strings t → eq_by_cmp key_cmp (sha256 s) (sha256 t) ≡ eq_by_cmp key_cmp s t
same_test strings apart s t is it =
    at (eq_by_cmp key_cmp (sha256 s) (sha256 t)) (eq_by_cmp key_cmp s t) refl refl where
      at : (b c : Bool) → eq_by_cmp key_cmp (sha256 s) (sha256 t) ≡ b → eq_by_cmp key_cmp s t ≡ c → b ≡ c
      at true true e f = refl
      at false false e f = refl
      at true false e f =
          let same : s ≡ t = apart s t is it (same_key (sha256 s) (sha256 t) e) in
          let tied : eq_by_cmp key_cmp s t ≡ true = ap (eq_by_cmp key_cmp s) (sym same) ∙ own_key s in
          sym tied ∙ f
      at false true e f =
          let same : s ≡ t = same_key s t f in
          let tied : eq_by_cmp key_cmp (sha256 s) (sha256 t) ≡ true = ap (λ x. eq_by_cmp key_cmp (sha256 s) (sha256 x)) (sym same) ∙ own_key (sha256 s) in
          sym e ∙ tied

pub keyed_find : {V : Type 0} (strings : List (List ℕ)) → Apart strings → (ps : List (List ℕ × V)) → AllByRecursion (λ e. IsIn strings e.0) ps → (s : List ℕ) → IsIn strings s
    → find key_cmp (sha256 s) (keyed ps) ≡ find key_cmp s ps
keyed_find strings apart [] within s is = refl
keyed_find strings apart (e ∷ ps) within s is =
    λ i. cond (same_test strings apart s e.0 is within.0 i) (Some e.1) (keyed_find strings apart ps within.1 s is i)

-- what is found under a key is found under a string with this digest
pub record Hashes (V : Type 0) (ps : List (List ℕ × V)) (key : List ℕ) (value : V) : Type 0 where
  pub string : List ℕ
  pub is_key : key ≡ sha256 string
  pub found : find key_cmp string ps ≡ Some value

pub keyed_from : {V : Type 0} (ps : List (List ℕ × V)) (key : List ℕ) (value : V) → find key_cmp key (keyed ps) ≡ Some value → Hashes V ps key value
keyed_from [] key value e = absurd (cc)
keyed_from {V} (p ∷ ps) key value e =
    at (eq_by_cmp key_cmp key (sha256 p.0)) refl e (keyed_from ps key value) where
      behind : Hashes V ps key value → eq_by_cmp key_cmp key (sha256 p.0) ≡ false → (b : Bool) → eq_by_cmp key_cmp (sha256 p.0) (sha256 p.0) ≡ true → Hashes V (p ∷ ps) key value
      behind h apart b own = other (eq_by_cmp key_cmp h.string p.0) refl where
        other : (c : Bool) → eq_by_cmp key_cmp h.string p.0 ≡ c → Hashes V (p ∷ ps) key value
        other true tied =
            let same : h.string ≡ p.0 = same_key h.string p.0 tied in
            let meets : eq_by_cmp key_cmp key (sha256 p.0) ≡ true = ap (λ k. eq_by_cmp key_cmp k (sha256 p.0)) (h.is_key ∙ ap sha256 same) ∙ own in
            absurd (cc)
        other false tied = record { string = h.string; is_key = h.is_key; found = ap (λ c. cond c (Some p.1) (find key_cmp h.string ps)) tied ∙ h.found }

      at : (b : Bool) → eq_by_cmp key_cmp key (sha256 p.0) ≡ b → cond b (Some p.1) (find key_cmp key (keyed ps)) ≡ Some value → (find key_cmp key (keyed ps) ≡ Some value → Hashes V ps key value) → Hashes V (p ∷ ps) key value
      at true tied e rest = record {
        string = p.0;
        is_key = same_key key (sha256 p.0) tied;
        found = ap (λ c. cond c (Some p.1) (find key_cmp p.0 ps)) (own_key p.0) ∙ e;
      }
      at false apart e rest = behind (rest e) apart true (own_key (sha256 p.0))

-- ---- names behind a byte

behind_byte : (byte : ℕ) (q k : List ℕ) → eq_by_cmp key_cmp (byte ∷ q) (byte ∷ k) ≡ eq_by_cmp key_cmp q k
behind_byte byte q k = ap (λ o. is_eq (ordering_then o (slice_cmp nat_cmp q k))) (tied_itself nat_cmp_total byte)

pub tagged_find : {A V : Type 0} (byte : ℕ) (f : A → V) (es : List (List ℕ × A)) (name : List ℕ) → find key_cmp (byte ∷ name) (valued (λ name. byte ∷ name) f es) ≡ option_map f (find key_cmp name es)
tagged_find byte f [] name = refl
tagged_find byte f (e ∷ es) name =
    ap (λ b. cond b (Some (f e.1)) (find key_cmp (byte ∷ name) (valued (λ name. byte ∷ name) f es))) (behind_byte byte name e.0)
    ∙ at (eq_by_cmp key_cmp name e.0) (tagged_find byte f es name) where
      at : (b : Bool) → find key_cmp (byte ∷ name) (valued (λ name. byte ∷ name) f es) ≡ option_map f (find key_cmp name es)
          → cond b (Some (f e.1)) (find key_cmp (byte ∷ name) (valued (λ name. byte ∷ name) f es)) ≡ option_map f (cond b (Some e.1) (find key_cmp name es))
      at true rest = refl
      at false rest = rest

other_byte : (byte other : ℕ) → other ≢ byte → (q k : List ℕ) → eq_by_cmp key_cmp (other ∷ q) (byte ∷ k) ≡ false
other_byte byte other differ q k = at (eq_by_cmp key_cmp (other ∷ q) (byte ∷ k)) refl where
  at : (b : Bool) → eq_by_cmp key_cmp (other ∷ q) (byte ∷ k) ≡ b → b ≡ false
  at false e = refl
  at true e = absurd (differ (ap (λ s. get_or s 0 0) (same_key (other ∷ q) (byte ∷ k) e)))

-- under another byte nothing is found
pub tagged_other : {A V : Type 0} (byte other : ℕ) → other ≢ byte → (f : A → V) (es : List (List ℕ × A)) (name : List ℕ) → find key_cmp (other ∷ name) (valued (λ name. byte ∷ name) f es) ≡ None
tagged_other byte other differ f [] name = refl
tagged_other byte other differ f (e ∷ es) name =
    ap (λ b. cond b (Some (f e.1)) (find key_cmp (other ∷ name) (valued (λ name. byte ∷ name) f es))) (other_byte byte other differ name e.0) ∙ tagged_other byte other differ f es name

-- what is found under a string is found under a name
pub record Tags (A V : Type 0) (byte : ℕ) (f : A → V) (es : List (List ℕ × A)) (string : List ℕ) (value : V) : Type 0 where
  pub name : List ℕ
  pub is_string : string ≡ byte ∷ name
  pub item : A
  pub found : find key_cmp name es ≡ Some item
  pub is_value : f item ≡ value

pub tagged_from : {A V : Type 0} (byte : ℕ) (f : A → V) (es : List (List ℕ × A)) (string : List ℕ) (value : V) → find key_cmp string (valued (λ name. byte ∷ name) f es) ≡ Some value → Tags A V byte f es string value
tagged_from byte f [] string value e = absurd (cc)
tagged_from {A} {V} byte f (d ∷ es) string value e = at (eq_by_cmp key_cmp string (byte ∷ d.0)) refl e (tagged_from byte f es string value) where
  at : (b : Bool) → eq_by_cmp key_cmp string (byte ∷ d.0) ≡ b → cond b (Some (f d.1)) (find key_cmp string (valued (λ name. byte ∷ name) f es)) ≡ Some value
      → (find key_cmp string (valued (λ name. byte ∷ name) f es) ≡ Some value → Tags A V byte f es string value) → Tags A V byte f (d ∷ es) string value
  at true tied e rest = record {
    name = d.0;
    is_string = same_key string (byte ∷ d.0) tied;
    item = d.1;
    found = ap (λ c. cond c (Some d.1) (find key_cmp d.0 es)) (own_key d.0);
    is_value = let same : f d.1 ≡ value = cc in same;
  }
  at false apart e rest =
      let h : Tags A V byte f es string value = rest e in
      behind h (eq_by_cmp key_cmp h.name d.0) refl where
        behind : (h : Tags A V byte f es string value) (c : Bool) → eq_by_cmp key_cmp h.name d.0 ≡ c → Tags A V byte f (d ∷ es) string value
        behind h true tied =
            let meets : eq_by_cmp key_cmp string (byte ∷ d.0) ≡ true =
            ap (λ s. eq_by_cmp key_cmp s (byte ∷ d.0)) (h.is_string ∙ ap (λ n. byte ∷ n) (same_key h.name d.0 tied)) ∙ own_key (byte ∷ d.0) in
            absurd (cc)
        behind h false tied = record {
          name = h.name;
          is_string = h.is_string;
          item = h.item;
          found = ap (λ c. cond c (Some d.1) (find key_cmp h.name es)) tied ∙ h.found;
          is_value = h.is_value;
        }

-- ---- two lists

pub find_both : {V : Type 0} (xs ys : List (List ℕ × V)) (q : List ℕ) → find key_cmp q (xs ++ ys) ≡ option_or (find key_cmp q xs) (find key_cmp q ys)
find_both [] ys q = refl
find_both (x ∷ xs) ys q = at (eq_by_cmp key_cmp q x.0) (find_both xs ys q) where
  at : (b : Bool) → find key_cmp q (xs ++ ys) ≡ option_or (find key_cmp q xs) (find key_cmp q ys)
      → cond b (Some x.1) (find key_cmp q (xs ++ ys)) ≡ option_or (cond b (Some x.1) (find key_cmp q xs)) (find key_cmp q ys)
  at true rest = refl
  at false rest = rest

-- ---- the strings of entries

-- of entries whose strings are listed, those under the byte are
pub keys_of : {A V : Type 0} (strings : List (List ℕ)) (byte : ℕ) (f : A → V) (g : List ℕ → A → List (List ℕ)) (es : List (List ℕ × A))
    → ((x : List ℕ) → IsIn (flat_map (λ e. (byte ∷ e.0) ∷ g e.0 e.1) es) x → IsIn strings x) → AllByRecursion (λ e. IsIn strings e.0) (valued (λ name. byte ∷ name) f es)
keys_of strings byte f g [] within = tt
keys_of strings byte f g (e ∷ es) within =
    (within (byte ∷ e.0) (inl refl), keys_of strings byte f g es (λ x i. within x (in_rest ((byte ∷ e.0) ∷ g e.0 e.1) _ x i)))

pub both_listed : {V : Type 0} (strings : List (List ℕ)) (xs ys : List (List ℕ × V)) → AllByRecursion (λ e. IsIn strings e.0) xs → AllByRecursion (λ e. IsIn strings e.0) ys
    → AllByRecursion (λ e. IsIn strings e.0) (xs ++ ys)
both_listed strings [] ys of_xs of_ys = of_ys
both_listed strings (x ∷ xs) ys of_xs of_ys = (of_xs.0, both_listed strings xs ys of_xs.1 of_ys)

-- the strings of one entry are among those of all
pub of_entry : {A : Type 0} (g : List ℕ → A → List (List ℕ)) (es : List (List ℕ × A)) (name : List ℕ) (item : A) → find key_cmp name es ≡ Some item
    → (x : List ℕ) → IsIn (g name item) x → IsIn (flat_map (λ e. g e.0 e.1) es) x
of_entry g [] name item e x i = absurd (cc)
of_entry {A} g (d ∷ es) name item e x i = at (eq_by_cmp key_cmp name d.0) refl e (λ h. of_entry g es name item h x i) where
  at : (b : Bool) → eq_by_cmp key_cmp name d.0 ≡ b → cond b (Some d.1) (find key_cmp name es) ≡ Some item
      → (find key_cmp name es ≡ Some item → IsIn (flat_map (λ e. g e.0 e.1) es) x) → IsIn (g d.0 d.1 ++ flat_map (λ e. g e.0 e.1) es) x
  at true tied e rest =
      let same : name ≡ d.0 = same_key name d.0 tied in
      let is : item ≡ d.1 = cc in
      in_front (g d.0 d.1) _ x (rw (sym same, sym is) i)
  at false apart e rest = in_rest (g d.0 d.1) _ x (rest e)
