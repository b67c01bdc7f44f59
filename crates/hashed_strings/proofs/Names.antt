-- The strings that are told of all names of a table are those that are hashed for it.
use Rattle.std.proofs.Common.{◌≡◌, ℕ, Bool, true, false, cond, List, [], ◌∷◌, ◌++◌, refl, sym, ap, ◌∙◌, subst, inl, inr, ⊎_elim, Option, Some, None}
use Rattle.std.specs.List.{flat_map}
use Rattle.std.specs.Ordering.{eq_by_cmp, is_eq, is_lt}
use Rattle.std.specs.FinMap.{entries, entries_sorted, find, get, get-entries, is_sorted}
use Rattle.std.specs.FinMap.Entries.{below_all}
use lib.Ieee.Bits.{is_true}
use Rattle.std.proofs.lemmas.Bool.{and_parts}
use Rattle.ar_base.specs.Apart.{IsIn}
use Rattle.ar_base.proofs.Apart.{in_both, in_front, in_rest}
use Rattle.ar_cert.specs.Changes.{Change}
use Rattle.domain_table.specs.Tables.{Pending, Table}
use Rattle.domain_table.specs.Tree.{chain_strings, pending_strings, table_strings, tree_entries}
use Rattle.domain_table.proofs.Keyed.{of_entry}
use Rattle.hash_tree.specs.Entries.{key_cmp}
use Rattle.hash_tree.specs.Root.{strings_of}
use Rattle.hash_tree.proofs.Changed.{own_key, same_key}
use Rattle.hash_tree.proofs.Maps.{less_is}
use Rattle.hashed_strings.specs.Named.{AreAll, name_strings, strings_of_chain, strings_of_pending, strings_told}

-- ---- the string of an entry

-- a string of one of the entries, which is found under its name
record Stands (A : Type 0) (g : List ℕ → A → List (List ℕ)) (es : List (List ℕ × A)) (x : List ℕ) : Type 0 where
  name : List ℕ
  item : A
  found : find key_cmp name es ≡ Some item
  within : IsIn (g name item) x

-- a name that is less than all is none of them
none-below : {A : Type 0} (q : List ℕ) (es : List (List ℕ × A)) → below_all key_cmp q es ≡ true → find key_cmp q es ≡ None
none-below q [] below = refl
none-below q (e ∷ es) below =
    let both = and_parts (is_lt (key_cmp q e.0)) (below_all key_cmp q es) below in
    ap (λ o. cond (is_eq o) (Some e.1) (find key_cmp q es)) (less_is (key_cmp q e.0) both.0) ∙ none-below q es both.1

stands : {A : Type 0} (g : List ℕ → A → List (List ℕ)) (es : List (List ℕ × A)) → is_sorted key_cmp es ≡ true → (x : List ℕ) → IsIn (flat_map (λ e. g e.0 e.1) es) x → Stands A g es x
stands g [] rise x i = absurd i
stands {A} g (d ∷ es) rise x i =
    let both = and_parts (below_all key_cmp d.0 es) (is_sorted key_cmp es) rise in
    ⊎_elim
    (λ (here : IsIn (g d.0 d.1) x). record { name = d.0; item = d.1; found = ap (λ b. cond b (Some d.1) (find key_cmp d.0 es)) (own_key d.0); within = here })
    (λ (rest : IsIn (flat_map (λ e. g e.0 e.1) es) x). behind both.0 (stands g es both.1 x rest))
    (in_both (g d.0 d.1) (flat_map (λ e. g e.0 e.1) es) x i)
  where
    behind : below_all key_cmp d.0 es ≡ true → Stands A g es x → Stands A g (d ∷ es) x
    behind below h = by (eq_by_cmp key_cmp h.name d.0) refl
      where
        by : (b : Bool) → eq_by_cmp key_cmp h.name d.0 ≡ b → Stands A g (d ∷ es) x
        by true tied =
            let none : None ≡ Some h.item = sym (none-below d.0 es below) ∙ ap (λ n. find key_cmp n es) (sym (same_key h.name d.0 tied)) ∙ h.found in
            absurd (cc)
        by false differ = record {
          name = h.name;
          item = h.item;
          found = ap (λ b. cond b (Some d.1) (find key_cmp h.name es)) differ ∙ h.found;
          within = h.within;
        }

-- ---- the strings of names

-- the strings of one of several names
in-each : (f : List ℕ → List (List ℕ)) (names : List (List ℕ)) (name x : List ℕ) → IsIn names name → IsIn (f name) x → IsIn (flat_map f names) x
in-each f [] name x there within = absurd there
in-each f (n ∷ names) name x (inl same) within = in_front (f n) (flat_map f names) x (subst (λ m. IsIn (f m) x) same within)
in-each f (n ∷ names) name x (inr there) within = in_rest (f n) (flat_map f names) x (in-each f names name x there within)

of-each : (f : List ℕ → List (List ℕ)) (names : List (List ℕ)) (x : List ℕ) → IsIn (flat_map f names) x → (name : List ℕ) × IsIn (f name) x
of-each f [] x i = absurd i
of-each f (n ∷ names) x i =
    ⊎_elim (λ (here : IsIn (f n) x). (n, here)) (λ (rest : IsIn (flat_map f names) x). of-each f names x rest) (in_both (f n) (flat_map f names) x i)

chain-hashed : (table : Table) (name x : List ℕ) (o : Option (List Change)) → get table.chains name ≡ o → IsIn (strings_of_chain name o) x
    → IsIn (flat_map (λ e. chain_strings e.0 e.1) (entries table.chains)) x
chain-hashed table name x None is i = absurd i
chain-hashed table name x (Some chain) is i = of_entry chain_strings (entries table.chains) name chain (sym (get-entries table.chains name) ∙ is) x i

pending-hashed : (table : Table) (name x : List ℕ) (o : Option Pending) → get table.waiting name ≡ o → IsIn (strings_of_pending name o) x
    → IsIn (flat_map (λ e. pending_strings e.0 e.1) (entries table.waiting)) x
pending-hashed table name x None is i = absurd i
pending-hashed table name x (Some p) is i = of_entry pending_strings (entries table.waiting) name p (sym (get-entries table.waiting name) ∙ is) x i

-- what is told is hashed for the table
pub told-hashed : (table : Table) (names : List (List ℕ)) (x : List ℕ) → IsIn (strings_told table names) x → IsIn (table_strings table) x
unfolding table_strings
told-hashed table names x i =
    ⊎_elim (λ (tree : IsIn (strings_of (tree_entries table)) x). in_front (strings_of (tree_entries table)) (chains ++ waiting) x tree)
    (λ (named : IsIn (flat_map (name_strings table) names) x). in_rest (strings_of (tree_entries table)) (chains ++ waiting) x (by (of-each (name_strings table) names x named)))
    (in_both (strings_of (tree_entries table)) (flat_map (name_strings table) names) x i)
  where
    chains : List (List ℕ)
    chains = flat_map (λ e. chain_strings e.0 e.1) (entries table.chains)

    waiting : List (List ℕ)
    waiting = flat_map (λ e. pending_strings e.0 e.1) (entries table.waiting)

    by : (name : List ℕ) × IsIn (name_strings table name) x → IsIn (chains ++ waiting) x
    by n =
        ⊎_elim (λ (c : IsIn (strings_of_chain n.0 (get table.chains n.0)) x). in_front chains waiting x (chain-hashed table n.0 x (get table.chains n.0) refl c))
        (λ (w : IsIn (strings_of_pending n.0 (get table.waiting n.0)) x). in_rest chains waiting x (pending-hashed table n.0 x (get table.waiting n.0) refl w))
        (in_both (strings_of_chain n.0 (get table.chains n.0)) (strings_of_pending n.0 (get table.waiting n.0)) x n.1)

-- and where all names are told, whatever is hashed for the table is told
pub hashed-told : (table : Table) (names : List (List ℕ)) → AreAll names table → (x : List ℕ) → IsIn (table_strings table) x → IsIn (strings_told table names) x
unfolding table_strings
hashed-told table names all x i =
    ⊎_elim (λ (tree : IsIn (strings_of (tree_entries table)) x). in_front (strings_of (tree_entries table)) (flat_map (name_strings table) names) x tree)
    (λ (rest : IsIn (chains ++ waiting) x). in_rest (strings_of (tree_entries table)) (flat_map (name_strings table) names) x
    (⊎_elim (λ (c : IsIn chains x). of-chain (stands chain_strings (entries table.chains) (is_true _ (entries_sorted table.chains)) x c))
    (λ (w : IsIn waiting x). of-pending (stands pending_strings (entries table.waiting) (is_true _ (entries_sorted table.waiting)) x w))
    (in_both chains waiting x rest)))
    (in_both (strings_of (tree_entries table)) (chains ++ waiting) x i)
  where
    chains : List (List ℕ)
    chains = flat_map (λ e. chain_strings e.0 e.1) (entries table.chains)

    waiting : List (List ℕ)
    waiting = flat_map (λ e. pending_strings e.0 e.1) (entries table.waiting)

    of-chain : Stands (List Change) chain_strings (entries table.chains) x → IsIn (flat_map (name_strings table) names) x
    of-chain s =
        let is : get table.chains s.name ≡ Some s.item = get-entries table.chains s.name ∙ s.found in
        in-each (name_strings table) names s.name x (all.chains s.name s.item is)
        (in_front (strings_of_chain s.name (get table.chains s.name)) (strings_of_pending s.name (get table.waiting s.name)) x
        (subst (λ o. IsIn (strings_of_chain s.name o) x) (sym is) s.within))

    of-pending : Stands Pending pending_strings (entries table.waiting) x → IsIn (flat_map (name_strings table) names) x
    of-pending s =
        let is : get table.waiting s.name ≡ Some s.item = get-entries table.waiting s.name ∙ s.found in
        in-each (name_strings table) names s.name x (all.waiting s.name s.item is)
        (in_rest (strings_of_chain s.name (get table.chains s.name)) (strings_of_pending s.name (get table.waiting s.name)) x
        (subst (λ o. IsIn (strings_of_pending s.name o) x) (sym is) s.within))
