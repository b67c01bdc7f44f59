-- Entries that are as many as the map has that they make: no two have one key.
use Rattle.std.proofs.Common.{◌≡◌, ℕ, ◌+◌, ◌-◌, ◌≤◌, List, [], ◌∷◌, ◌++◌, map, length, refl, sym, ap, ◌∙◌, subst, arith, length-append, append_assoc, ⊎_elim, ◌⊎◌, Bool, true, false, true≢false, cond, is_some, Option, Some, None}
use Rattle.std.specs.Prelude.{IsSome}
use Rattle.std.specs.List.{filter_map, cons_option, AllByRecursion}
use Rattle.std.specs.Option.{option_len, option_map, option_or}
use Rattle.std.specs.Ordering.{eq_by_cmp}
use Rattle.std.specs.FinMap.{contains_key, find, from_entries, get, insert, len, remove, get-from_entries, len-empty, len-insert, len-remove}
use Rattle.std.proofs.lemmas.List.{map-append}
use Rattle.std.proofs.lemmas.List.Elements.{filter_map-append, recursion_from_All}
use Rattle.hash_tree.specs.Entries.{Entry, Entries, key_cmp}
use Rattle.hash_tree.proofs.Maps.{total}
use Rattle.hash_tree.proofs.Changed.{own_key}
use Rattle.domain_table.specs.declared.row.Marks.{Marks}
use Rattle.domain_table.specs.Tables.{Pending}
use Rattle.domain_table.specs.Tree.{pending_value}
use Rattle.domain_table.specs.Rows.{RowData, HaveOwnKeys, AreRows, IsAlone, IsMarked, hit, marked, marks_of, name_entry, pending_entry, pending_pair, waiting_in, with_entry}
use Rattle.domain_table.proofs.Keyed.{find_both}
use Rattle.domain_table.proofs.RowLists.{one_refreshed, marks_join, marks_split, split_map, split_filtered}

-- ---- the map of a list

len_step : (n m : ℕ) (b : Bool) (k : ℕ) → n ≡ cond b m (m + 1) → m ≤ k → n ≤ k + 1
len_step n m true k e l = omega (arith, e, l)
len_step n m false k e l = omega (arith, e, l)

len_from : (es : List Entry) → len (from_entries {R = key_cmp} es) ≤ length es
len_from [] = let none = len-empty key_cmp (List ℕ) in omega (arith, none)
len_from (e ∷ es) =
    let more = len_step (len (from_entries {R = key_cmp} (e ∷ es))) (len (from_entries es)) (contains_key (from_entries es) e.0) (length es) (len-insert total (from_entries es) e.0 e.1) (len_from es) in
    omega (arith, more)

-- what is found beside an entry under another key
beside : (front : List Entry) (e : Entry) (back : List Entry) (q : List ℕ) → eq_by_cmp key_cmp q e.0 ≡ false → find key_cmp q (front ++ e ∷ back) ≡ find key_cmp q (front ++ back)
beside front e back q apart =
    find_both front (e ∷ back) q ∙ ap (λ b. option_or (find key_cmp q front) (cond b (Some e.1) (find key_cmp q back))) apart ∙ sym (find_both front back q)

never_none : {V : Type 0} (o : Option V) (v : V) → option_or o (Some v) ≡ None → true ≡ false
never_none None v e = absurd (cc)
never_none (Some x) v e = absurd (cc)

-- of entries of which the map has as many, no other has an entry's key
pub alone : (front : List Entry) (e : Entry) (back : List Entry) → length (front ++ e ∷ back) ≤ len (from_entries {R = key_cmp} (front ++ e ∷ back)) → find key_cmp e.0 (front ++ back) ≡ None
alone front e back many = at (find key_cmp e.0 (front ++ back)) refl (find key_cmp e.0 (front ++ e ∷ back)) refl where
  at : (o : Option (List ℕ)) → find key_cmp e.0 (front ++ back) ≡ o → (p : Option (List ℕ)) → find key_cmp e.0 (front ++ e ∷ back) ≡ p → o ≡ None
  at None is p there = refl
  at (Some v) is None there =
      let never = never_none (find key_cmp e.0 front) e.1 (ap (λ b. option_or (find key_cmp e.0 front) (cond b (Some e.1) (find key_cmp e.0 back))) (sym (own_key e.0)) ∙ sym (find_both front (e ∷ back) e.0) ∙ there) in
      absurd (true≢false never)
  at (Some v) is (Some x) there =
      let same = ap len (ap (with_entry (from_entries (front ++ back)) e.0) (sym there) ∙ one_refreshed (front ++ back) (front ++ e ∷ back) e.0 (beside front e back)) in
      let has : contains_key (from_entries (front ++ back)) e.0 ≡ true = ap is_some (get-from_entries total (front ++ back) e.0 ∙ is) in
      let count = len-insert total (from_entries (front ++ back)) e.0 x ∙ ap (λ b. cond b (len (from_entries {R = key_cmp} (front ++ back))) (len (from_entries {R = key_cmp} (front ++ back)) + 1)) has in
      let few = len_from (front ++ back) in
      absurd (omega (arith, many, same, count, few, length-append front (e ∷ back), length-append front back))

-- ---- how many entries a map has at least

pub least_set : (m after : Entries) (key value : List ℕ) (least new : ℕ) (there : Bool) → least ≤ len m → after ≡ insert m key value → there ≡ contains_key m key
    → (there ≡ true → new ≡ least) → (there ≡ false → new ≤ least + 1) → new ≤ len after
least_set m after key value least new there l is has same more = at there refl where
  at : (b : Bool) → there ≡ b → new ≤ len after
  at true e =
      let count = ap (λ t. len t) is ∙ len-insert total m key value ∙ ap (λ b. cond b (len m) (len m + 1)) (sym has ∙ e) in
      let new_is = same e in
      omega (arith, l, count, new_is)
  at false e =
      let count = ap (λ t. len t) is ∙ len-insert total m key value ∙ ap (λ b. cond b (len m) (len m + 1)) (sym has ∙ e) in
      let new_most = more e in
      omega (arith, l, count, new_most)

pub least_removed : (m after : Entries) (key : List ℕ) (least new : ℕ) (there : Bool) → least ≤ len m → after ≡ remove m key → there ≡ contains_key m key
    → (there ≡ true → new ≡ least - 1) → (there ≡ false → new ≡ least) → new ≤ len after
least_removed m after key least new there l is has less same = at there refl where
  at : (b : Bool) → there ≡ b → new ≤ len after
  at true e =
      let count = ap (λ t. len t) is ∙ len-remove total m key ∙ ap (λ b. cond b (len m - 1) (len m)) (sym has ∙ e) in
      let new_is = less e in
      omega (arith, l, count, new_is)
  at false e =
      let count = ap (λ t. len t) is ∙ len-remove total m key ∙ ap (λ b. cond b (len m - 1) (len m)) (sym has ∙ e) in
      let new_is = same e in
      omega (arith, l, count, new_is)

-- ---- the entries of marks

none_first : {V : Type 0} (o p : Option V) → option_or o p ≡ None → o ≡ None
none_first None p e = refl
none_first (Some x) p e = absurd (cc)

none_second : {V : Type 0} (o p : Option V) → option_or o p ≡ None → p ≡ None
none_second None p e = e
none_second (Some x) p e = absurd (cc)

pub none_in : (key : List ℕ) (front back : List Marks) → find key_cmp key (marked (front ++ back)) ≡ None → IsAlone key front back
none_in key front back none =
    let parts = sym (marks_join front back key) ∙ none in
    let names = none_first _ _ parts in
    let pendings = none_second _ _ parts in
    record {
      names_before = none_first _ _ names;
      names_behind = none_second _ _ names;
      pendings_before = none_first _ _ pendings;
      pendings_behind = none_second _ _ pendings;
    }

-- nothing has the key, and so the marks' name has another
pub none_around : (key : List ℕ) (front : List Marks) (m : Marks) (back : List Marks) → find key_cmp key (marked (front ++ m ∷ back)) ≡ None → IsAlone key front back × (eq_by_cmp key_cmp key m.key ≡ false)
none_around key front m back none =
    let parts = sym (marks_split front m back key) ∙ none in
    let names = none_first _ _ parts in
    let pendings = none_second _ _ parts in
    let behind = by (eq_by_cmp key_cmp key m.key) refl (none_second _ _ names) in (
      record {
        names_before = none_first _ _ names;
        names_behind = behind.1;
        pendings_before = none_first _ _ pendings;
        pendings_behind = none_second _ _ (none_second _ _ pendings);
      },
      behind.0,
    ) where
      by : (b : Bool) → eq_by_cmp key_cmp key m.key ≡ b → cond b (Some m.value) (find key_cmp key (map name_entry back)) ≡ None → (b ≡ false) × (find key_cmp key (map name_entry back) ≡ None)
      by true is e = absurd (cc)
      by false is e = (refl, e)

-- the entry of a name among those of marks
name_parts : (front : List Marks) (m : Marks) (back : List Marks) → marked (front ++ m ∷ back) ≡ map name_entry front ++ name_entry m ∷ (map name_entry back ++ filter_map pending_entry (front ++ m ∷ back))
name_parts front m back =
    ap (λ xs. xs ++ filter_map pending_entry (front ++ m ∷ back)) (map-append name_entry front (m ∷ back))
    ∙ append_assoc (map name_entry front) (name_entry m ∷ map name_entry back) (filter_map pending_entry (front ++ m ∷ back))

pub name_alone : (front : List Marks) (m : Marks) (back : List Marks) (trie : Entries) → trie ≡ from_entries (marked (front ++ m ∷ back)) → length (marked (front ++ m ∷ back)) ≤ len trie → IsAlone m.key front back
name_alone front m back trie is many =
    let all = ap (λ t. len t) is in
    let counted : length (marked (front ++ m ∷ back)) ≤ len (from_entries {R = key_cmp} (marked (front ++ m ∷ back))) = omega (arith, many, all) in
    let none = alone (map name_entry front) (name_entry m) (map name_entry back ++ filter_map pending_entry (front ++ m ∷ back))
    (subst (λ (es : List Entry). length es ≤ len (from_entries {R = key_cmp} es)) (name_parts front m back) counted) in
    let before = sym (find_both (map name_entry front) (map name_entry back ++ filter_map pending_entry (front ++ m ∷ back)) m.key) ∙ none in
    let behind = sym (find_both (map name_entry back) (filter_map pending_entry (front ++ m ∷ back)) m.key) ∙ none_second _ _ before in
    let pendings = sym (split_filtered pending_entry front m back m.key) ∙ none_second _ _ behind in
    record {
      names_before = none_first _ _ before;
      names_behind = none_first _ _ behind;
      pendings_before = none_first _ _ pendings;
      pendings_behind = none_second _ _ (none_second _ _ pendings);
    }

-- the entry of what waits
pending_parts : (front : List Marks) (m : Marks) (back : List Marks) (v : List ℕ) → m.pending_value ≡ Some v
    → marked (front ++ m ∷ back) ≡ (map name_entry (front ++ m ∷ back) ++ filter_map pending_entry front) ++ (m.pending_key, v) ∷ filter_map pending_entry back
pending_parts front m back v waits =
    ap (λ xs. map name_entry (front ++ m ∷ back) ++ xs)
    (filter_map-append pending_entry front (m ∷ back) ∙ ap (λ o. filter_map pending_entry front ++ cons_option (option_map (λ x. (m.pending_key, x)) o) (filter_map pending_entry back)) waits)
    ∙ sym (append_assoc (map name_entry (front ++ m ∷ back)) (filter_map pending_entry front) ((m.pending_key, v) ∷ filter_map pending_entry back))

pub pending_alone : (front : List Marks) (m : Marks) (back : List Marks) (trie : Entries) → trie ≡ from_entries (marked (front ++ m ∷ back)) → length (marked (front ++ m ∷ back)) ≤ len trie → IsSome m.pending_value
    → IsAlone m.pending_key front back × (eq_by_cmp key_cmp m.pending_key m.key ≡ false)
pending_alone front m back trie is many waits = at m.pending_value refl waits where
  at : (o : Option (List ℕ)) → m.pending_value ≡ o → IsSome o → IsAlone m.pending_key front back × (eq_by_cmp key_cmp m.pending_key m.key ≡ false)
  at None e some = absurd (cc)
  at (Some v) e some =
      let all = ap (λ t. len t) is in
      let counted : length (marked (front ++ m ∷ back)) ≤ len (from_entries {R = key_cmp} (marked (front ++ m ∷ back))) = omega (arith, many, all) in
      let key : List ℕ = m.pending_key in
      let none = alone (map name_entry (front ++ m ∷ back) ++ filter_map pending_entry front) (key, v) (filter_map pending_entry back)
      (subst (λ (es : List Entry). length es ≤ len (from_entries {R = key_cmp} es)) (pending_parts front m back v e) counted) in
      let parts = sym (find_both (map name_entry (front ++ m ∷ back) ++ filter_map pending_entry front) (filter_map pending_entry back) key) ∙ none in
      let first = sym (find_both (map name_entry (front ++ m ∷ back)) (filter_map pending_entry front) key) ∙ none_first _ _ parts in
      let names = sym (split_map name_entry front m back key) ∙ none_first _ _ first in
      let behind = by (eq_by_cmp key_cmp key m.key) refl (none_second _ _ names) in (
        record {
          names_before = none_first _ _ names;
          names_behind = behind.1;
          pendings_before = none_second _ _ first;
          pendings_behind = none_second _ _ parts;
        },
        behind.0,
      ) where
        by : (b : Bool) → eq_by_cmp key_cmp m.pending_key m.key ≡ b → cond b (Some m.value) (find key_cmp m.pending_key (map name_entry back)) ≡ None → (b ≡ false) × (find key_cmp m.pending_key (map name_entry back) ≡ None)
        by true is e = absurd (cc)
        by false is e = (refl, e)

-- ---- the value under a key that is the marks' alone

pub name_found : (front : List Marks) (m : Marks) (back : List Marks) → IsAlone m.key front back → find key_cmp m.key (marked (front ++ m ∷ back)) ≡ Some m.value
name_found front m back is =
    marks_split front m back m.key
    ∙ (λ i. option_or (option_or (is.names_before i) (cond (own_key m.key i) (Some m.value) (find key_cmp m.key (map name_entry back))))
    (option_or (find key_cmp m.key (filter_map pending_entry front)) (option_or (hit m.key (pending_entry m)) (find key_cmp m.key (filter_map pending_entry back)))))

own_hit : (key : List ℕ) (o : Option (List ℕ)) → option_or (hit key (option_map (λ v. (key, v)) o)) None ≡ o
own_hit key None = refl
own_hit key (Some v) = ap (λ b. option_or (cond b (Some v) None) None) (own_key key)

pub pending_found : (front : List Marks) (m : Marks) (back : List Marks) → IsAlone m.pending_key front back → eq_by_cmp key_cmp m.pending_key m.key ≡ false → find key_cmp m.pending_key (marked (front ++ m ∷ back)) ≡ m.pending_value
pending_found front m back is own =
    marks_split front m back m.pending_key
    ∙ (λ i. option_or (option_or (is.names_before i) (cond (own i) (Some m.value) (is.names_behind i))) (option_or (is.pendings_before i) (option_or (hit m.pending_key (pending_entry m)) (is.pendings_behind i))))
    ∙ own_hit m.pending_key m.pending_value

-- ---- how many entries rows have

entry_count : (o : Option Pending) (key : List ℕ) (es : List Entry) → length (cons_option (option_map (λ v. (key, v)) (option_map pending_value o)) es) ≡ option_len o + length es
entry_count None key es = omega arith
entry_count (Some p) key es = omega arith

pair_count : (o : Option Pending) (name : List ℕ) (ps : List (List ℕ × Pending)) → length (cons_option (option_map (λ p. (name, p)) o) ps) ≡ option_len o + length ps
pair_count None name ps = omega arith
pair_count (Some p) name ps = omega arith

pendings_counted : (rows : List RowData) → AllByRecursion IsMarked rows → length (filter_map pending_entry (marks_of rows)) ≡ waiting_in rows
pendings_counted [] are = refl
pendings_counted (r ∷ rows) are =
    let here = ap (λ o. length (cons_option (option_map (λ v. (r.marks.pending_key, v)) o) (filter_map pending_entry (marks_of rows)))) are.0.pending_value in
    let entries = entry_count r.waiting r.marks.pending_key (filter_map pending_entry (marks_of rows)) in
    let pairs = pair_count r.waiting r.name (filter_map pending_pair rows) in
    let rest = pendings_counted rows are.1 in
    omega (arith, here, entries, pairs, rest)

names_counted : (rows : List RowData) → length (map name_entry (marks_of rows)) ≡ length rows
names_counted [] = refl
names_counted (r ∷ rows) = let rest = names_counted rows in omega (arith, rest)

pub marked_counted : (rows : List RowData) → AreRows rows → length (marked (marks_of rows)) ≡ length rows + waiting_in rows
marked_counted rows are =
    let pendings = pendings_counted rows (recursion_from_All IsMarked rows are.marked) in
    let names = names_counted rows in
    let both = length-append (map name_entry (marks_of rows)) (filter_map pending_entry (marks_of rows)) in
    omega (arith, pendings, names, both)

-- ---- a row's marks among others

module _ (front : List Marks) (old new : Marks) (back : List Marks) (trie : Entries) (apart : Bool)
    (tree : trie ≡ from_entries (marked (front ++ old ∷ back))) (are : HaveOwnKeys apart (front ++ old ∷ back) trie) (same_key : new.key ≡ old.key) where
  pub name_still : apart ≡ true → IsAlone new.key front back
  name_still is = subst (λ k. IsAlone k front back) (sym same_key) (name_alone front old back trie tree (are is))

  pub pending_still : new.pending_key ≡ old.pending_key → ((apart ≡ true) × IsSome old.pending_value) ⊎ (get trie old.pending_key ≡ None)
      → IsAlone new.pending_key front back × (eq_by_cmp key_cmp new.pending_key new.key ≡ false)
  pending_still same how =
      let is : IsAlone old.pending_key front back × (eq_by_cmp key_cmp old.pending_key old.key ≡ false) =
      ⊎_elim (λ (w : (apart ≡ true) × IsSome old.pending_value). pending_alone front old back trie tree (are w.0) w.1)
      (λ (none : get trie old.pending_key ≡ None).
      none_around old.pending_key front old back (sym (get-from_entries total (marked (front ++ old ∷ back)) old.pending_key) ∙ ap (λ m. get m old.pending_key) (sym tree) ∙ none)) how in
      (subst (λ k. IsAlone k front back) (sym same) is.0, (λ i. eq_by_cmp key_cmp (same i) (same_key i)) ∙ is.1)

pub come_alone : (key : List ℕ) (front back : List Marks) (trie : Entries) → trie ≡ from_entries (marked (front ++ back)) → get trie key ≡ None → IsAlone key front back
come_alone key front back trie tree none = none_in key front back (sym (get-from_entries total (marked (front ++ back)) key) ∙ ap (λ m. get m key) (sym tree) ∙ none)
