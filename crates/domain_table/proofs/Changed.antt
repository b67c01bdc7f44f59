-- What rows are after one of them changed, or one came in: the table with the change that was taken.
use Rattle.std.proofs.Common.{◌≡◌, ℕ, ◌+◌, ◌<◌, List, [], ◌∷◌, ◌++◌, map, length, get_or, take, drop, refl, sym, ap, ◌∙◌, subst, arith, Bool, true, false, cond, Option, Some, None}
use Rattle.std.specs.Prelude.{IsTrue, All, unwrap_or}
use Rattle.std.specs.Ordering.{eq_by_cmp}
use Rattle.std.specs.FinMap.{FinMap, get, insert, is_sorted, same_map, get-insert}
use Rattle.std.proofs.lemmas.List.Elements.{All-append, All-cons, All-take, All-drop}
use Rattle.std.specs.Option.{option_len}
use Rattle.hash_tree.specs.Entries.{Entries, key_cmp}
use Rattle.hash_tree.proofs.Maps.{total, exact}
use Rattle.hash_tree.proofs.Changed.{same_key}
use Rattle.cert_policy.specs.declared.manner.Manner.TheVariants.{Full, Recovery, Objected}
use Rattle.ar_cert.specs.Changes.{Change}
use Rattle.domain_table.specs.Tables.{Pending, chain_of, size}
use Rattle.domain_table.specs.Applying.{taking_change}
use Rattle.domain_table.specs.Rows.{RowData, chain_pair, table_of, waiting_in, with_row, IsMarked, AreRows, IsChanged}
use Rattle.domain_table.proofs.RowLists.{changed_chains, changed_waiting, with_pending, rise_changed, places, places_split, size_rows, waiting_split}
use Rattle.domain_table.proofs.RipeRows.{Stands, stands}
use Rattle.domain_table.proofs.Places.{split_at}

-- a map with what it has at a key already is the same map
insert_same : {V : Type 0} (m : FinMap key_cmp V) (key : List ℕ) (v : V) → get m key ≡ Some v → insert m key v ≡ m
insert_same m key v has = same_map total exact _ _ (λ q. get-insert total m key v q ∙ at q (eq_by_cmp key_cmp q key) refl) where
  at : (q : List ℕ) (b : Bool) → eq_by_cmp key_cmp q key ≡ b → cond (eq_by_cmp key_cmp q key) (Some v) (get m q) ≡ get m q
  at q true tied = ap (λ b. cond b (Some v) (get m q)) tied ∙ sym has ∙ ap (get m) (sym (same_key q key tied))
  at q false apart = ap (λ b. cond b (Some v) (get m q)) apart

module _ (old new : List RowData) (trie : Entries) (i : ℕ) (d : RowData) (chain : List Change) (waiting : Option Pending)
    (within : i < length old) (are : AreRows old) (is : IsChanged old new trie i (get_or old i d) chain waiting) where
  abbrev other : RowData
  other = with_row (get_or old i d) chain waiting is.marks

  old_rise : IsTrue (is_sorted key_cmp (map chain_pair (take i old ++ get_or old i d ∷ drop (i + 1) old)))
  old_rise = subst (λ (xs : List RowData). IsTrue (is_sorted key_cmp (map chain_pair xs))) (split_at old i d within) are.rise

  new_rise : IsTrue (is_sorted key_cmp (map chain_pair new))
  new_rise = ap (λ xs. is_sorted key_cmp (map chain_pair xs)) is.rows ∙ rise_changed (take i old) (get_or old i d) other (drop (i + 1) old) refl ∙ old_rise

  pub are_changed : AreRows new
  are_changed = record {
    rise = new_rise;
    marked = subst (All IsMarked) (sym is.rows)
        (All-append IsMarked (take i old) (other ∷ drop (i + 1) old) (All-take IsMarked i old are.marked)
        (All-cons IsMarked other (drop (i + 1) old) is.is_marked (All-drop IsMarked (i + 1) old are.marked)));
  }

  pub chains_are : (table_of new).chains ≡ insert (table_of old).chains (get_or old i d).name chain
  chains_are =
      ap (λ xs. (table_of xs).chains) is.rows
      ∙ changed_chains (take i old) (get_or old i d) other (drop (i + 1) old) old_rise refl
      ∙ ap (λ xs. insert (table_of xs).chains (get_or old i d).name chain) (sym (split_at old i d within))

  pub waiting_is : (table_of new).waiting ≡ with_pending (table_of old).waiting (get_or old i d).name waiting
  waiting_is =
      ap (λ xs. (table_of xs).waiting) is.rows
      ∙ changed_waiting (take i old) (get_or old i d) other (drop (i + 1) old) old_rise refl
      ∙ ap (λ xs. with_pending (table_of xs).waiting (get_or old i d).name waiting) (sym (split_at old i d within))

  pub size_is : size (table_of new) + (length (get_or old i d).chain + option_len (get_or old i d).waiting) ≡ size (table_of old) + (length chain + option_len waiting)
  size_is =
      let before = size_rows old are.rise in
      let after = size_rows new new_rise in
      let one = ap places (split_at old i d within) ∙ places_split (take i old) (get_or old i d) (drop (i + 1) old) in
      let two = ap places is.rows ∙ places_split (take i old) other (drop (i + 1) old) in
      omega (arith, before, after, one, two)

  pub waiting_now : waiting_in new + option_len (get_or old i d).waiting ≡ waiting_in old + option_len waiting
  waiting_now =
      let one = ap waiting_in (split_at old i d within) ∙ waiting_split (take i old) (get_or old i d) (drop (i + 1) old) in
      let two = ap waiting_in is.rows ∙ waiting_split (take i old) other (drop (i + 1) old) in
      omega (arith, one, two)

  -- the chain of the row's name in the table is the row's
  own_chain : get (table_of old).chains (get_or old i d).name ≡ Some (get_or old i d).chain
  own_chain = let own : Stands (table_of old) (get_or old i d) = stands old are.rise i d within in own.chain

  pub same_chains : chain ≡ (get_or old i d).chain → (table_of new).chains ≡ (table_of old).chains
  same_chains same =
      chains_are ∙ ap (insert (table_of old).chains (get_or old i d).name) same
      ∙ insert_same (table_of old).chains (get_or old i d).name (get_or old i d).chain own_chain

-- the change was appended
pub taken_full : (old new : List RowData) (trie : Entries) (i : ℕ) (d : RowData) (epoch : ℕ) (change : Change) → i < length old → AreRows old
    → (get_or old i d).name ≡ change.cert.name → IsChanged old new trie i (get_or old i d) ((get_or old i d).chain ++ change ∷ []) None
    → table_of new ≡ taking_change (table_of old) epoch change Full
unfolding taking_change
taken_full old new trie i d epoch change within are name is =
    let r : RowData = get_or old i d in
    let own : Stands (table_of old) r = stands old are.rise i d within in
    let chain : r.chain ≡ chain_of (table_of old) r.name = sym (ap (λ o. unwrap_or o []) own.chain) in
    let chains = chains_are old new trie i d (r.chain ++ change ∷ []) None within are is
    ∙ (λ j. insert (table_of old).chains r.name (chain j ++ change ∷ []))
    ∙ (λ j. insert (table_of old).chains (name j) (chain_of (table_of old) (name j) ++ change ∷ [])) in
    let waiting = waiting_is old new trie i d (r.chain ++ change ∷ []) None within are is ∙ ap (λ n. with_pending (table_of old).waiting n None) name in
    λ j. record { chains = chains j; waiting = waiting j }

-- the change waits
pub taken_recovery : (old new : List RowData) (trie : Entries) (i : ℕ) (d : RowData) (epoch : ℕ) (change : Change) → i < length old → AreRows old
    → (get_or old i d).name ≡ change.cert.name → IsChanged old new trie i (get_or old i d) (get_or old i d).chain (Some (record { change = change; since = epoch }))
    → table_of new ≡ taking_change (table_of old) epoch change Recovery
unfolding taking_change
taken_recovery old new trie i d epoch change within are name is =
    let p : Pending = record { change = change; since = epoch } in
    let chains = same_chains old new trie i d (get_or old i d).chain (Some p) within are is refl in
    let waiting = waiting_is old new trie i d (get_or old i d).chain (Some p) within are is ∙ ap (λ n. with_pending (table_of old).waiting n (Some p)) name in
    λ j. record { chains = chains j; waiting = waiting j }

-- nothing waits any longer
pub taken_objected : (old new : List RowData) (trie : Entries) (i : ℕ) (d : RowData) (epoch : ℕ) (change : Change) → i < length old → AreRows old
    → (get_or old i d).name ≡ change.cert.name → IsChanged old new trie i (get_or old i d) (get_or old i d).chain None
    → table_of new ≡ taking_change (table_of old) epoch change Objected
unfolding taking_change
taken_objected old new trie i d epoch change within are name is =
    let chains = same_chains old new trie i d (get_or old i d).chain None within are is refl in
    let waiting = waiting_is old new trie i d (get_or old i d).chain None within are is ∙ ap (λ n. with_pending (table_of old).waiting n None) name in
    λ j. record { chains = chains j; waiting = waiting j }
