-- The table with one name alone: how it comes to be, its one entry, and the strings that are hashed for it.
use Rattle.std.proofs.Common.{◌≡◌, ℕ, zero, suc, ◌+◌, ◌≤◌, ◌⊎◌, inl, inr, List, [], ◌∷◌, ◌++◌, length, refl, sym, ap, ◌∙◌, subst, arith, Option, Some, None, Ok}
use Rattle.std.specs.Prelude.{All, flat_map, map, sum, unwrap_or}
use Rattle.std.specs.FinMap.{empty, entries, entries-insert, get, get-empty, get-entries, get-remove, remove, same_map}
use Rattle.std.specs.FinMap as maps
use Rattle.std.specs.Option.{option_and_then}
use Rattle.sha2.specs.Sha256.{sha256}
use Rattle.ar_base.specs.Apart.{IsIn}
use Rattle.ar_base.proofs.Apart.{in_both}
use Rattle.ar_names.specs.Names.{name_string}
use Rattle.vote_quorum.specs.Numbers.{distinct_count}
use Rattle.cert_policy.specs.Clauses.{Registers, in_manner}
use Rattle.cert_policy.specs.declared.manner.Manner.TheVariants.{Full}
use Rattle.cert_policy.proofs.Meaning.{registration_facts}
use Rattle.ar_cert.specs.Certificate.{certificate_string, digest_of}
use Rattle.ar_cert.specs.Changes.{Change}
use Rattle.ar_cert.specs.Judging.{cert_terms_of, endorsers_of}
use Rattle.hash_tree.specs.Entries.{Entries, Entry, key_cmp}
use Rattle.hash_tree.specs.Root.{strings_below, strings_of}
use Rattle.hash_tree.specs.Strings.{entry_string, pending_key_string, value_digest, value_string}
use Rattle.hash_tree.proofs.ByCount.{string-one}
use Rattle.hash_tree.proofs.Maps.{exact, total}
use Rattle.domain_table.specs.Applying.{after_answer, apply, apply_each, judge_ripe, manner_of, taking_change, with_room}
use Rattle.domain_table.specs.Tables.{Pending, Table, chain_of, newest, no_table, size}
use Rattle.domain_table.specs.Tree.{chain_strings, keyed, pending_strings, pending_value, root_of, table_strings, valued, tree_entries, value_of}
use Rattle.ar_safety.specs.RegisteredRun.{a_name, first_certificate, one_table, registration}
use Rattle.ar_safety.proofs.Empty.{no-entries, ripe-none, either}
use Rattle.ar_safety.proofs.Examples.{one-more}

-- ---- the registration is applied

three-many : 3 ≤ distinct_count (0 ∷ (1 ∷ (2 ∷ [])))
three-many = omega (arith, one-more 0 (1 ∷ (2 ∷ [])) refl, one-more 1 (2 ∷ []) refl, one-more 2 [] refl)

registers : Registers (cert_terms_of first_certificate) (endorsers_of registration)
registers = record {
  alive = refl;
  first_serial = refl;
  unlinked = refl;
  endorsed = three-many;
  well_formed = record { least = omega arith; most = omega arith; reachable = omega arith };
}

none-chain : chain_of no_table a_name ≡ []
none-chain = ap (λ (o : Option (List Change)). unwrap_or o []) (get-empty key_cmp a_name)

no-size : size no_table ≡ 0
no-size =
    ap (λ (es : List (List ℕ × List Change)). sum (map (λ e. length e.1) es) + length (entries no_table.waiting)) (no-entries (List Change))
    ∙ ap (λ (es : List (List ℕ × Pending)). 0 + length es) (no-entries Pending)

is-judged : judge_ripe no_table registration ≡ Ok Full
unfolding judge_ripe
is-judged =
    let by-chain : manner_of (newest (chain_of no_table a_name)) (get no_table.waiting a_name) registration ≡ manner_of None (get no_table.waiting a_name) registration =
    ap (λ c. manner_of (newest c) (get no_table.waiting a_name) registration) none-chain in
    let manner = by-chain ∙ ap (in_manner Full) ((registration_facts (cert_terms_of first_certificate) (endorsers_of registration)).1 registers) in
    ap (λ n. with_room n (manner_of (newest (chain_of no_table a_name)) (get no_table.waiting a_name) registration)) no-size ∙ ap (with_room 0) manner

pub applied-one : apply no_table 1 (registration ∷ []) ≡ Some one_table
unfolding apply_each
applied-one =
    ap (λ t. apply_each t 1 (registration ∷ [])) ripe-none
    ∙ ap (λ a. option_and_then (λ t. apply_each t 1 []) (after_answer no_table 1 registration a)) is-judged

-- ---- what stands in it

pub one-chain : entries one_table.chains ≡ (a_name, registration ∷ []) ∷ []
unfolding taking_change
one-chain =
    entries-insert total no_table.chains a_name (chain_of no_table a_name ++ registration ∷ [])
    ∙ ap (maps.put key_cmp a_name (chain_of no_table a_name ++ registration ∷ [])) (no-entries (List Change))
    ∙ ap (λ (c : List Change). (a_name, c ++ registration ∷ []) ∷ []) none-chain

pub no-waiting : entries one_table.waiting ≡ []
unfolding taking_change
no-waiting =
    let same : remove no_table.waiting a_name ≡ empty = same_map total exact (remove no_table.waiting a_name) empty (λ q.
    get-remove total no_table.waiting a_name q ∙ either _ (get no_table.waiting q) (get-empty key_cmp q) ∙ sym (get-empty key_cmp q)) in
    ap (λ m. entries m) same ∙ no-entries Pending

pub chain-is : chain_of one_table a_name ≡ registration ∷ []
chain-is = ap (λ (o : Option (List Change)). unwrap_or o []) (get-entries one_table.chains a_name ∙ ap (maps.find key_cmp a_name) one-chain)

-- ---- its entry

abbrev pub NameKey : List ℕ
NameKey = sha256 (name_string a_name)

abbrev pub NameValue : List ℕ
NameValue = value_digest 0 (digest_of first_certificate)

pub one-entry : entries (tree_entries one_table) ≡ (NameKey, NameValue) ∷ []
unfolding tree_entries
one-entry =
    ap (λ (es : List (List ℕ × List Change)). entries (maps.from_entries {R = key_cmp} (keyed (valued name_string value_of es ++ valued pending_key_string pending_value (entries one_table.waiting))))) one-chain
    ∙ ap (λ (es : List (List ℕ × Pending)). entries (maps.from_entries {R = key_cmp} (keyed ((name_string a_name, NameValue) ∷ valued pending_key_string pending_value es)))) no-waiting
    ∙ entries-insert total empty NameKey NameValue
    ∙ ap (maps.put key_cmp NameKey NameValue) (no-entries (List ℕ))

pub root-is : root_of one_table ≡ sha256 (entry_string NameKey NameValue)
root-is = ap sha256 (string-one 256 (tree_entries one_table) (NameKey, NameValue) one-entry)

-- ---- its strings

-- for the name's key, its value, its certificate, and its entry
abbrev pub IsOne : List ℕ → Type 0
IsOne x = (x ≡ name_string a_name) ⊎ ((x ≡ value_string 0 (digest_of first_certificate)) ⊎ ((x ≡ certificate_string first_certificate) ⊎ (x ≡ entry_string NameKey NameValue)))

entry-alone : (left : ℕ) (m : Entries) (e : Entry) → entries m ≡ e ∷ [] → (x : List ℕ) → IsIn (strings_below left m) x → x ≡ entry_string e.0 e.1
unfolding strings_below
entry-alone zero m e one x (inl is) = is ∙ string-one zero m e one
entry-alone zero m e one x (inr more) = absurd more
entry-alone (suc left) m e one x (inl is) = is ∙ string-one (suc left) m e one
entry-alone (suc left) m e one x (inr more) = absurd (rw one at more)

pub one-of : (x : List ℕ) → IsIn (table_strings one_table) x → IsOne x
unfolding table_strings
one-of x is = elim (in_both (strings_of (tree_entries one_table)) _ x is) [
  | inl tree ↦ inr (inr (inr (entry-alone 256 (tree_entries one_table) (NameKey, NameValue) one-entry x tree)))
  | inr rest ↦ elim (in_both (flat_map (λ (e : List ℕ × List Change). chain_strings e.0 e.1) (entries one_table.chains)) (flat_map (λ (e : List ℕ × Pending). pending_strings e.0 e.1) (entries one_table.waiting)) x rest) [
    | inl chains ↦ in-chain x (subst (λ es. IsIn (flat_map (λ (e : List ℕ × List Change). chain_strings e.0 e.1) es) x) one-chain chains)
    | inr waiting ↦ absurd (subst (λ es. IsIn (flat_map (λ (e : List ℕ × Pending). pending_strings e.0 e.1) es) x) no-waiting waiting)
  ]
]
  where
    in-chain : (x : List ℕ) → IsIn (flat_map (λ (e : List ℕ × List Change). chain_strings e.0 e.1) ((a_name, registration ∷ []) ∷ [])) x → IsOne x
    in-chain x (inl name) = inl name
    in-chain x (inr (inl value)) = inr (inl value)
    in-chain x (inr (inr (inl certificate))) = inr (inr (inl certificate))
    in-chain x (inr (inr (inr more))) = absurd more

pub tables-of : (tables : List Table) → All (λ t. t ≡ one_table) tables → (x : List ℕ) → IsIn (flat_map table_strings tables) x → IsOne x
tables-of [] all x is = absurd is
tables-of (t ∷ tables) all x is = elim (in_both (table_strings t) (flat_map table_strings tables) x is) [
  | inl here ↦ one-of x (subst (λ u. IsIn (table_strings u) x) (all 0 t (omega arith)) here)
  | inr later ↦ tables-of tables (λ k d less. all (suc k) d (omega (arith, less))) x later
]
