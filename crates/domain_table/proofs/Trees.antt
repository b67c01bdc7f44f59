-- Tables with one root are one table, where none of the strings that are hashed for them collide.
use Rattle.std.proofs.Common.{◌≡◌, ℕ, ◌<◌, List, [], ◌∷◌, ◌++◌, map, length, drop, refl, sym, ap, ◌∙◌, subst, arith, inl, inr, ⊎_elim, Option, Some, None}
use Rattle.std.specs.Prelude.{All, IsTrue, unwrap_or}
use Rattle.std.specs.List.{flat_map}
use Rattle.std.specs.Option.{option_map, option_or}
use Rattle.std.specs.Int.{w64, to_be_bytes, from_be_bytes}
use Rattle.std.specs.FinMap.{get, entries, find, get-entries, get-from_entries}
use Rattle.std.proofs.lemmas.Nat.{from_be_bytes-to_be_bytes_8}
use Rattle.std.proofs.lemmas.List.Elements.{All-nil, All-cons}
use Rattle.sha2.specs.Sha256.{sha256}
use Rattle.ar_base.specs.Apart.{IsIn, Apart, none_collide}
use Rattle.ar_base.proofs.Apart.{in_front, in_rest, in_both, apart, none_collide-part}
use Rattle.ar_base.specs.Bytes.{IsDigest}
use Rattle.ar_base.proofs.Digests.{sha256-IsDigest}
use Rattle.ar_base.proofs.Shown.{or_none, mapped}
use Rattle.ar_names.specs.Names.{name_digest_of, name_string}
use Rattle.hash_tree.specs.Strings.{pending_key, pending_key_string, pending_string, value_string}
use Rattle.hash_tree.specs.Entries.{key_cmp, HoldsDigests}
use Rattle.hash_tree.specs.Root.{strings_of}
use Rattle.hash_tree.proofs.Maps.{total}
use Rattle.tree_proof.proofs.Lands.{same_parts}
use Rattle.tree_proof.proofs.Bind.{equal_roots}
use Rattle.ar_cert.specs.Certificate.{Certificate, IsCertificate, certificate_string, certificate_value, digest_of}
use Rattle.ar_cert.specs.Changes.{Change}
use Rattle.domain_table.specs.Tables.{Pending, Table, chain_of, certificates_of, newest, waiting_digest, pair_of, SameTable}
use Rattle.domain_table.specs.Sound.{IsChainOf, Waits, IsSound}
use Rattle.domain_table.specs.Tree.{value_of, pending_value, valued, tree_strings, tree_entries, root_of, newest_strings, chain_strings, pending_strings, table_strings}
use Rattle.domain_table.proofs.Newest.{newest_there, newest_has}
use Rattle.domain_table.proofs.Keyed.{keyed_find, keyed_from, tagged_find, tagged_from, tagged_other, find_both, keys_of, both_listed, of_entry}
use Rattle.domain_table.proofs.Chains.{Good, one_certificate, one_chain}

-- all strings that are hashed for a table are listed
pub record Listed (strings : List (List ℕ)) (table : Table) : Type 0 where
  pub tree : (x : List ℕ) → IsIn (strings_of (tree_entries table)) x → IsIn strings x
  pub chains : (x : List ℕ) → IsIn (flat_map (λ e. chain_strings e.0 e.1) (entries table.chains)) x → IsIn strings x
  pub waiting : (x : List ℕ) → IsIn (flat_map (λ e. pending_strings e.0 e.1) (entries table.waiting)) x → IsIn strings x

pub listed : (strings : List (List ℕ)) (table : Table) → ((x : List ℕ) → IsIn (table_strings table) x → IsIn strings x) → Listed strings table
unfolding table_strings
listed strings table within = record {
  tree = λ x i. within x (in_front (strings_of (tree_entries table)) _ x i);
  chains = λ x i. within x (in_rest (strings_of (tree_entries table)) _ x (in_front (flat_map (λ e. chain_strings e.0 e.1) (entries table.chains)) _ x i));
  waiting = λ x i. within x (in_rest (strings_of (tree_entries table)) _ x (in_rest (flat_map (λ e. chain_strings e.0 e.1) (entries table.chains)) _ x i));
}

-- the strings of a name's chain, and of what waits for a name
pub chain_listed : (strings : List (List ℕ)) (table : Table) → Listed strings table → (name : List ℕ) (chain : List Change) → get table.chains name ≡ Some chain
    → (x : List ℕ) → IsIn (chain_strings name chain) x → IsIn strings x
chain_listed strings table listed name chain there x i =
    listed.chains x (of_entry chain_strings (entries table.chains) name chain (sym (get-entries table.chains name) ∙ there) x i)

pub waiting_listed : (strings : List (List ℕ)) (table : Table) → Listed strings table → (name : List ℕ) (p : Pending) → get table.waiting name ≡ Some p
    → (x : List ℕ) → IsIn (pending_strings name p) x → IsIn strings x
waiting_listed strings table listed name p there x i =
    listed.waiting x (of_entry pending_strings (entries table.waiting) name p (sym (get-entries table.waiting name) ∙ there) x i)

-- ---- what the tree has under a key

string_find : (strings : List (List ℕ)) → Apart strings → (table : Table) → Listed strings table → (s : List ℕ) → IsIn strings s
    → get (tree_entries table) (sha256 s) ≡ option_or (find key_cmp s (valued name_string value_of (entries table.chains))) (find key_cmp s (valued pending_key_string pending_value (entries table.waiting)))
unfolding tree_entries
string_find strings apart table listed s is =
    get-from_entries total _ (sha256 s)
    ∙ keyed_find strings apart (tree_strings table)
    (both_listed strings (valued name_string value_of (entries table.chains)) (valued pending_key_string pending_value (entries table.waiting))
    (keys_of strings 0x11 value_of (λ name chain. newest_strings (newest chain) ++ map certificate_string (certificates_of chain)) (entries table.chains) listed.chains)
    (keys_of strings 0x12 pending_value (λ name p. pending_string p.since (waiting_digest p) ∷ (certificate_string p.change.cert ∷ [])) (entries table.waiting) listed.waiting)) s is
    ∙ find_both (valued name_string value_of (entries table.chains)) (valued pending_key_string pending_value (entries table.waiting)) s

pub entry_at : (strings : List (List ℕ)) → Apart strings → (table : Table) → Listed strings table → (name : List ℕ) → IsIn strings (name_string name)
    → get (tree_entries table) (name_digest_of name) ≡ option_map value_of (get table.chains name)
entry_at strings apart table listed name is =
    string_find strings apart table listed (name_string name) is
    ∙ ap (option_or (find key_cmp (name_string name) (valued name_string value_of (entries table.chains)))) (tagged_other 0x12 0x11 (λ e. absurd (omega (arith, e))) pending_value (entries table.waiting) name)
    ∙ or_none (find key_cmp (name_string name) (valued name_string value_of (entries table.chains)))
    ∙ tagged_find 0x11 value_of (entries table.chains) name
    ∙ ap (option_map value_of) (sym (get-entries table.chains name))

pub pending_at : (strings : List (List ℕ)) → Apart strings → (table : Table) → Listed strings table → (name : List ℕ) → IsIn strings (pending_key_string name)
    → get (tree_entries table) (pending_key name) ≡ option_map pending_value (get table.waiting name)
pending_at strings apart table listed name is =
    string_find strings apart table listed (pending_key_string name) is
    ∙ ap (λ o. option_or o (find key_cmp (pending_key_string name) (valued pending_key_string pending_value (entries table.waiting)))) (tagged_other 0x11 0x12 (λ e. absurd (omega (arith, e))) value_of (entries table.chains) name)
    ∙ tagged_find 0x12 pending_value (entries table.waiting) name
    ∙ ap (option_map pending_value) (sym (get-entries table.waiting name))

-- ---- keys and values are digests

value_is_digest : (chain : List Change) → 0 < length chain → IsDigest (value_of chain)
value_is_digest [] l = absurd (omega (arith, l))
value_is_digest (c ∷ []) l = sha256-IsDigest _
value_is_digest (c ∷ b ∷ chain) l = value_is_digest (b ∷ chain) (omega arith)

pub holds_digests : (table : Table) → IsSound table → HoldsDigests (tree_entries table)
unfolding tree_entries
holds_digests table sound key value there =
    let found = keyed_from (tree_strings table) key value (sym (get-from_entries total _ key) ∙ there) in (
      subst IsDigest (sym found.is_key) (sha256-IsDigest found.string),
      by found.string (find key_cmp found.string (valued name_string value_of (entries table.chains))) refl
          (sym (find_both (valued name_string value_of (entries table.chains)) (valued pending_key_string pending_value (entries table.waiting)) found.string) ∙ found.found),
    ) where
      by : (s : List ℕ) (first : Option (List ℕ)) → find key_cmp s (valued name_string value_of (entries table.chains)) ≡ first
          → option_or first (find key_cmp s (valued pending_key_string pending_value (entries table.waiting))) ≡ Some value → IsDigest value
      by s (Some v) is e =
          let same : v ≡ value = cc in
          let tags = tagged_from 0x11 value_of (entries table.chains) s v is in
          subst IsDigest (tags.is_value ∙ same)
          (value_is_digest tags.item (sound.chains tags.name tags.item (get-entries table.chains tags.name ∙ tags.found)).chain.some)
      by s None is e =
          let tags = tagged_from 0x12 pending_value (entries table.waiting) s value e in
          subst IsDigest tags.is_value (sha256-IsDigest _)

-- ---- what one of two tables has, the other has

-- certificates that are in a list of hashed strings
certs_listed : (strings : List (List ℕ)) (chain : List Change) → ((x : List ℕ) → IsIn (map certificate_string (certificates_of chain)) x → IsIn strings x) → All (λ r. IsIn strings (certificate_string r.cert)) chain
certs_listed strings [] within = All-nil (λ r. IsIn strings (certificate_string r.cert))
certs_listed strings (c ∷ chain) within =
    All-cons (λ r. IsIn strings (certificate_string r.cert)) c chain (within (certificate_string c.cert) (inl refl)) (certs_listed strings chain (λ x i. within x (inr i)))

pub good_chain : (strings : List (List ℕ)) (table : Table) → IsSound table → Listed strings table → (name : List ℕ) (chain : List Change) → get table.chains name ≡ Some chain → Good strings chain
good_chain strings table sound listed name chain there =
    let is : IsChainOf name chain = sound.chains name chain there in
    record {
      is_chain = is.chain;
      each = is.each;
      hashed = certs_listed strings chain (λ x i. chain_listed strings table listed name chain there x (inr (in_rest (newest_strings (newest chain)) _ x i)));
    }

-- eight bytes and a digest behind a byte: the digest
same_value : (strings : List (List ℕ)) → Apart strings → (a b : Certificate) → IsIn strings (value_string a.serial (digest_of a)) → IsIn strings (value_string b.serial (digest_of b))
    → certificate_value a ≡ certificate_value b → digest_of a ≡ digest_of b
same_value strings apart a b in_a in_b e =
    let same = apart (value_string a.serial (digest_of a)) (value_string b.serial (digest_of b)) in_a in_b e in
    (same_parts (to_be_bytes w64 a.serial) (digest_of a) (to_be_bytes w64 b.serial) (digest_of b) (ap (drop 1) same) refl).1

-- the newest certificate of a chain in a table
record Top (strings : List (List ℕ)) (chain : List Change) : Type 0 where
  cert : Certificate
  is_newest : newest chain ≡ Some cert
  fits : IsCertificate cert
  hashed : IsIn strings (certificate_string cert)
  value_hashed : IsIn strings (value_string cert.serial (digest_of cert))
  is_value : value_of chain ≡ certificate_value cert

top_of : (strings : List (List ℕ)) (table : Table) → IsSound table → Listed strings table → (name : List ℕ) (chain : List Change) → get table.chains name ≡ Some chain → Top strings chain
top_of strings table sound listed name chain there =
    let good : Good strings chain = good_chain strings table sound listed name chain there in
    let c = newest_there chain good.is_chain.some in
    record {
      cert = c.0;
      is_newest = c.1;
      fits = newest_has IsCertificate chain c.0 (λ k d l. (good.each k d l).cert) c.1;
      hashed = newest_has (λ x. IsIn strings (certificate_string x)) chain c.0 good.hashed c.1;
      value_hashed = chain_listed strings table listed name chain there (value_string c.0.serial (digest_of c.0))
          (inr (in_front (newest_strings (newest chain)) _ (value_string c.0.serial (digest_of c.0)) (subst (λ o. IsIn (newest_strings o) (value_string c.0.serial (digest_of c.0))) (sym c.1) (inl refl))));
      is_value = ap (λ o. unwrap_or (option_map certificate_value o) []) c.1;
    }

pub shared_name : (strings : List (List ℕ)) → Apart strings → (one other : Table) → IsSound one → IsSound other → Listed strings one → Listed strings other → tree_entries one ≡ tree_entries other
    → (name : List ℕ) (chain : List Change) → get one.chains name ≡ Some chain → (x : List Change) × (get other.chains name ≡ Some x) × (certificates_of chain ≡ certificates_of x)
shared_name strings apart one other sound_one sound_other listed_one listed_other e name chain there =
    let is : IsIn strings (name_string name) = chain_listed strings one listed_one name chain there (name_string name) (inl refl) in
    let found = mapped value_of (get other.chains name) (value_of chain)
    (sym (entry_at strings apart other listed_other name is) ∙ ap (λ m. get m (name_digest_of name)) (sym e) ∙ entry_at strings apart one listed_one name is ∙ ap (option_map value_of) there) in
    let a : Top strings chain = top_of strings one sound_one listed_one name chain there in
    let b : Top strings found.0 = top_of strings other sound_other listed_other name found.0 found.1 in
    let same : a.cert ≡ b.cert = one_certificate strings apart a.cert b.cert a.fits b.fits a.hashed b.hashed
    (same_value strings apart a.cert b.cert a.value_hashed b.value_hashed (sym a.is_value ∙ sym found.2 ∙ b.is_value)) in (
      found.0,
      found.1,
      one_chain strings apart chain found.0 (good_chain strings one sound_one listed_one name chain there) (good_chain strings other sound_other listed_other name found.0 found.1)
          (a.is_newest ∙ ap (λ c. Some c) same ∙ sym b.is_newest),
    )

pub shared_pending : (strings : List (List ℕ)) → Apart strings → (one other : Table) → IsSound one → IsSound other → Listed strings one → Listed strings other → tree_entries one ≡ tree_entries other
    → (name : List ℕ) (p : Pending) → get one.waiting name ≡ Some p → (q : Pending) × (get other.waiting name ≡ Some q) × (pair_of p ≡ pair_of q)
shared_pending strings apart one other sound_one sound_other listed_one listed_other e name p there =
    let is : IsIn strings (pending_key_string name) = waiting_listed strings one listed_one name p there (pending_key_string name) (inl refl) in
    let found = mapped pending_value (get other.waiting name) (pending_value p)
    (sym (pending_at strings apart other listed_other name is) ∙ ap (λ m. get m (pending_key name)) (sym e) ∙ pending_at strings apart one listed_one name is ∙ ap (option_map pending_value) there) in
    let q : Pending = found.0 in
    let waits_p : Waits name (chain_of one name) p = sound_one.waits name p there in
    let waits_q : Waits name (chain_of other name) q = sound_other.waits name q found.1 in
    let same = apart (pending_string p.since (waiting_digest p)) (pending_string q.since (waiting_digest q))
    (waiting_listed strings one listed_one name p there (pending_string p.since (waiting_digest p)) (inr (inl refl)))
    (waiting_listed strings other listed_other name q found.1 (pending_string q.since (waiting_digest q)) (inr (inl refl))) (sym found.2) in
    let parts = same_parts (to_be_bytes w64 p.since) (waiting_digest p) (to_be_bytes w64 q.since) (waiting_digest q) (ap (drop 1) same) refl in
    let since : p.since ≡ q.since = sym (from_be_bytes-to_be_bytes_8 p.since waits_p.since) ∙ ap (from_be_bytes w64) parts.0 ∙ from_be_bytes-to_be_bytes_8 q.since waits_q.since in
    let cert : p.change.cert ≡ q.change.cert = one_certificate strings apart p.change.cert q.change.cert waits_p.change.cert waits_q.change.cert
    (waiting_listed strings one listed_one name p there (certificate_string p.change.cert) (inr (inr (inl refl))))
    (waiting_listed strings other listed_other name q found.1 (certificate_string q.change.cert) (inr (inr (inl refl)))) parts.1 in
    (q, found.1, λ i. (cert i, since i))

-- ---- two tables

same_look_ups : {A B : Type 0} (f : A → B) (a b : Option A) → ((x : A) → a ≡ Some x → (y : A) × (b ≡ Some y) × (f x ≡ f y)) → ((y : A) → b ≡ Some y → (x : A) × (a ≡ Some x)) → option_map f a ≡ option_map f b
same_look_ups f None None forth back = refl
same_look_ups f None (Some y) forth back = let x = back y refl in absurd (cc)
same_look_ups f (Some x) b forth back =
    let y = forth x refl in
    ap (λ z. Some z) y.2 ∙ ap (option_map f) (sym y.1)

as_list : {A B : Type 0} (f : List A → List B) → f [] ≡ [] → (o : Option (List A)) → f (unwrap_or o []) ≡ unwrap_or (option_map f o) []
as_list f none None = none
as_list f none (Some xs) = refl

-- of tables whose strings are all among those of a list in which none collide
pub same_tables : (strings : List (List ℕ)) → IsTrue (none_collide strings) → (one other : Table) → IsSound one → IsSound other → Listed strings one → Listed strings other
    → root_of one ≡ root_of other → SameTable one other
same_tables strings clean one other sound_one sound_other listed_one listed_other e name =
    let none : Apart strings = apart strings clean in
    let entries : tree_entries one ≡ tree_entries other = equal_roots (tree_entries one) (tree_entries other) (holds_digests one sound_one) (holds_digests other sound_other)
    (none_collide-part (strings_of (tree_entries one) ++ strings_of (tree_entries other)) strings
    (λ x i. ⊎_elim (λ (h : IsIn (strings_of (tree_entries one)) x). listed_one.tree x h) (λ (h : IsIn (strings_of (tree_entries other)) x). listed_other.tree x h)
    (in_both (strings_of (tree_entries one)) (strings_of (tree_entries other)) x i)) clean) e in
    let chains = same_look_ups certificates_of (get one.chains name) (get other.chains name)
    (λ chain there. shared_name strings none one other sound_one sound_other listed_one listed_other entries name chain there)
    (λ chain there. let x = shared_name strings none other one sound_other sound_one listed_other listed_one (sym entries) name chain there in (x.0, x.1)) in (
      as_list certificates_of refl (get one.chains name) ∙ ap (λ o. unwrap_or o []) chains ∙ sym (as_list certificates_of refl (get other.chains name)),
      same_look_ups pair_of (get one.waiting name) (get other.waiting name)
          (λ p there. shared_pending strings none one other sound_one sound_other listed_one listed_other entries name p there)
          (λ p there. let x = shared_pending strings none other one sound_other sound_one listed_other listed_one (sym entries) name p there in (x.0, x.1)),
    )

-- the same of the strings of two tables
pub equal_tables : (one other : Table) → IsSound one → IsSound other → IsTrue (none_collide (table_strings one ++ table_strings other)) → root_of one ≡ root_of other → SameTable one other
equal_tables one other sound_one sound_other clean e =
    same_tables (table_strings one ++ table_strings other) clean one other sound_one sound_other
    (listed (table_strings one ++ table_strings other) one (λ x i. in_front (table_strings one) (table_strings other) x i))
    (listed (table_strings one ++ table_strings other) other (λ x i. in_rest (table_strings one) (table_strings other) x i)) e

-- a root is a digest
pub root-digest : (table : Table) → IsDigest (root_of table)
root-digest table = sha256-IsDigest _
