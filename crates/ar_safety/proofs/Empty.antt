-- The table without names: nothing applied leaves it as it is, and one string is hashed for it.
use Rattle.std.proofs.Common.{◌≡◌, ℕ, zero, suc, inl, inr, List, [], ◌∷◌, refl, sym, ap, ◌∙◌, subst, arith, Bool, true, false, cond, Option, Some, None}
use Rattle.std.specs.Prelude.{All, flat_map}
use Rattle.std.specs.FinMap.{empty, entries, get, get-empty, len-empty, len-entries, same_map}
use Rattle.std.specs.List.{list_all}
use Rattle.std.specs.Option.{option_map}
use Rattle.std.specs.Str.{bytes_eq}
use Rattle.std.proofs.lemmas.Slice.Eq.{bytes_eq-Decides}
use Rattle.std.proofs.lemmas.List.{nil_from_length}
use Rattle.std.proofs.lemmas.Bool.{or_right}
use Rattle.ar_base.specs.Apart.{IsIn, are_apart, none_collide}
use Rattle.ar_base.proofs.Apart.{in_both, all_from}
use Rattle.ar_cert.specs.Changes.{Change}
use Rattle.hash_tree.specs.Entries.{Entries, key_cmp}
use Rattle.hash_tree.specs.Root.{string_below, strings_below, strings_of}
use Rattle.hash_tree.proofs.Maps.{exact, total}
use Rattle.domain_table.specs.Applying.{apply, apply_each, ripen, ripened}
use Rattle.domain_table.specs.Tables.{Pending, Table, no_table}
use Rattle.domain_table.specs.Tree.{chain_strings, pending_strings, table_strings, tree_entries}
use Rattle.domain_table.proofs.Maps.{get-ripen, waiting-ripen}

-- ---- the table without names

pub no-entries : (V : Type 0) → entries (empty {X = V} {R = key_cmp}) ≡ []
no-entries V = nil_from_length (entries (empty {X = V} {R = key_cmp})) (sym (len-entries (empty {X = V} {R = key_cmp})) ∙ len-empty key_cmp V)

-- nothing is left of what is not there
pub either : {A : Type 0} (b : Bool) (o : Option A) → o ≡ None → cond b None o ≡ None
either true o e = refl
either false o e = e

-- it stays so where nothing is applied
pub ripe-none : ripen no_table 1 ≡ no_table
ripe-none =
    let chains : (ripen no_table 1).chains ≡ empty = same_map total exact (ripen no_table 1).chains empty (λ name.
    get-ripen no_table 1 name ∙ ap (option_map (ripened no_table 1 name)) (get-empty key_cmp name) ∙ sym (get-empty key_cmp name)) in
    let waiting : (ripen no_table 1).waiting ≡ empty = same_map total exact (ripen no_table 1).waiting empty (λ name. waits name) in
    λ i. record { chains = chains i; waiting = waiting i }
  where
    waits : (name : List ℕ) → get (ripen no_table 1).waiting name ≡ get no_table.waiting name
    waits name = waiting-ripen no_table 1 name ∙ either _ (get no_table.waiting name) (get-empty key_cmp name) ∙ sym (get-empty key_cmp name)

pub applied-none : apply no_table 1 [] ≡ Some no_table
unfolding apply_each
applied-none = ap (λ t. Some t) ripe-none

-- it has one string
one-string : (left : ℕ) (m : Entries) → entries m ≡ [] → (x : List ℕ) → IsIn (strings_below left m) x → x ≡ string_below left m
unfolding strings_below
one-string zero m none x (inl is) = is
one-string zero m none x (inr more) = absurd more
one-string (suc left) m none x (inl is) = is
one-string (suc left) m none x (inr more) = absurd (rw none at more)

pub empty-tree : entries (tree_entries no_table) ≡ []
unfolding tree_entries
empty-tree = rw (no-entries (List Change)) (rw (no-entries Pending) (no-entries (List ℕ)))

pub own-string : List ℕ
own-string = string_below 256 (tree_entries no_table)

table-string : (x : List ℕ) → IsIn (table_strings no_table) x → x ≡ own-string
unfolding table_strings own-string
table-string x is = elim (in_both (strings_of (tree_entries no_table)) _ x is) [
  | inl tree ↦ one-string 256 (tree_entries no_table) empty-tree x tree
  | inr rest ↦ absurd (elim (in_both (flat_map (λ (e : List ℕ × List Change). chain_strings e.0 e.1) (entries no_table.chains)) (flat_map (λ (e : List ℕ × Pending). pending_strings e.0 e.1) (entries no_table.waiting)) x rest) [
    | inl chains ↦ subst (λ es. IsIn (flat_map (λ (e : List ℕ × List Change). chain_strings e.0 e.1) es) x) (no-entries (List Change)) chains
    | inr waiting ↦ subst (λ es. IsIn (flat_map (λ (e : List ℕ × Pending). pending_strings e.0 e.1) es) x) (no-entries Pending) waiting
  ])
]

pub tables-string : (tables : List Table) → All (λ t. t ≡ no_table) tables → (x : List ℕ) → IsIn (flat_map table_strings tables) x → x ≡ own-string
tables-string [] all x is = absurd is
tables-string (t ∷ tables) all x is = elim (in_both (table_strings t) (flat_map table_strings tables) x is) [
  | inl here ↦ table-string x (subst (λ u. IsIn (table_strings u) x) (all 0 t (omega arith)) here)
  | inr later ↦ tables-string tables (λ k d less. all (suc k) d (omega (arith, less))) x later
]

-- equal strings do not collide
pub one-apart : (one : List ℕ) (xs : List (List ℕ)) → ((x : List ℕ) → IsIn xs x → x ≡ one) → none_collide xs ≡ true
one-apart one xs same = all_from (λ x. list_all (λ y. are_apart x y) xs) xs (λ x here. all_from (λ y. are_apart x y) xs (λ y there. or_right _ (bytes_eq x y) ((bytes_eq-Decides x y).1 (same x here ∙ sym (same y there)))))
