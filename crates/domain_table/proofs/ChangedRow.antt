-- A row of a map that changed, from what its parts say; and what a change in the order of the map is in the order of names.
use Rattle.std.proofs.Common.{◌≡◌, ℕ, ◌+◌, ◌<◌, List, [], ◌∷◌, ◌++◌, map, length, get_or, take, drop, zero, suc, refl, sym, ap, subst, ◌∙◌, arith, Option, Some, Vec, Global}
use Rattle.std.specs.Prelude.{IsTrue, slice_get}
use Rattle.std.specs.Option.{option_len, option_map}
use Rattle.std.specs.FinMap.{from_entries, is_sorted}
use Rattle.std.proofs.lemmas.List.{length-append}
use Rattle.std.proofs.Math.Seq.{take-append_seam, drop-append-add, get_or-append_seam}
use Rattle.indexmap.specs.IndexMap.{set_value_at}
use Rattle.hash_tree.specs.Entries.{Entries, key_cmp}
use Rattle.ar_cert.specs.Changes.{Change}
use Rattle.domain_table.specs.declared.row.Marks.{Marks}
use Rattle.domain_table.specs.declared.row.Row.{Row}
use Rattle.domain_table.specs.Tables.{Pending}
use Rattle.domain_table.specs.Tree.{value_of, pending_value}
use Rattle.domain_table.specs.Rows.{Named, RowData, by_name, chain_pair, data_of, data_in, first_row, greater, lesser, marked, marks_of, pending_of, rows_in, with_marks, with_row, IsMarked, AreRows, IsChanged, IsChangedIn, IsCome, IsMissing}
use Rattle.domain_table.proofs.Places.{get_row, length_rows, marks_with, row_is, rows_set, same_set}
use Rattle.domain_table.proofs.ByName.{missing_rows, named_changed, named_come, named_split}

-- ---- a row in the order of names

-- how many rows have a lesser name
abbrev pub place_of : List ℕ → List RowData → ℕ
place_of name rows = length (lesser name rows)

-- at the place of its name stands a row, behind those with a lesser name and before those with a greater one
pub record IsPlaced (rows : List RowData) (r : RowData) : Type 0 where
  pub within : place_of r.name rows < length rows
  pub same : get_or rows (place_of r.name rows) r ≡ r
  pub front : take (place_of r.name rows) rows ≡ lesser r.name rows
  pub back : drop (place_of r.name rows + 1) rows ≡ greater r.name rows

pub placed : (xs : List RowData) (i : ℕ) (d : RowData) → i < length xs → IsTrue (is_sorted key_cmp (map chain_pair (by_name xs))) → IsPlaced (by_name xs) (get_or xs i d)
placed xs i d l rise =
    let r : RowData = get_or xs i d in
    let front : List RowData = lesser r.name (by_name xs) in
    let back : List RowData = greater r.name (by_name xs) in
    let is : by_name xs ≡ front ++ r ∷ back = named_split xs i d l rise in
    record {
      within = omega (arith, ap length is, length-append front (r ∷ back));
      same = ap (λ rows. get_or rows (length front) r) is ∙ get_or-append_seam front r back r;
      front = ap (take (length front)) is ∙ take-append_seam front (r ∷ back);
      back = ap (drop (length front + 1)) is ∙ drop-append-add front (r ∷ back) 1;
    }

-- a change in the order of the map is one in the order of names
pub changed_named : (old new : List Named) (trie : Entries) (i : ℕ) (d : RowData) (chain : RowData → List Change) (waiting : Option Pending) → i < length old
    → IsTrue (is_sorted key_cmp (map chain_pair (data_in old))) → IsChangedIn old new trie i (get_or (rows_in old) i d) (chain (get_or (rows_in old) i d)) waiting
    → IsChanged (data_in old) (data_in new) trie (place_of (get_or (rows_in old) i d).name (data_in old)) (get_or (data_in old) (place_of (get_or (rows_in old) i d).name (data_in old)) (get_or (rows_in old) i d))
    (chain (get_or (data_in old) (place_of (get_or (rows_in old) i d).name (data_in old)) (get_or (rows_in old) i d))) waiting
changed_named old new trie i d chain waiting l rise is =
    let r : RowData = get_or (rows_in old) i d in
    let within : i < length (rows_in old) = omega (arith, l, length_rows old) in
    let at : IsPlaced (data_in old) r = placed (rows_in old) i d within rise in
    let now : data_in new ≡ lesser r.name (data_in old) ++ with_row r (chain r) waiting is.marks ∷ greater r.name (data_in old) =
    named_changed (rows_in old) (rows_in new) i d (with_row r (chain r) waiting is.marks) within rise refl is.rows in
    subst (λ (x : RowData). IsChanged (data_in old) (data_in new) trie (place_of r.name (data_in old)) x (chain x) waiting) (sym at.same)
    (record {
      marks = is.marks;
      rows = now ∙ (λ k. sym at.front k ++ with_row r (chain r) waiting is.marks ∷ sym at.back k);
      is_marked = is.is_marked;
      tree = is.tree;
    })

-- a row that comes in behind the others stands between those with a lesser name and those with a greater one
pub come_named : (old new : List Named) (trie : Entries) (change : Change) (is : IsCome old new trie change) → IsTrue (is_sorted key_cmp (map chain_pair (data_in old))) → IsMissing change.cert.name old
    → (data_in old ≡ lesser change.cert.name (data_in old) ++ greater change.cert.name (data_in old))
    × (data_in new ≡ lesser change.cert.name (data_in old) ++ first_row change.cert.name change is.marks ∷ greater change.cert.name (data_in old))
come_named old new trie change is rise none =
    let parts = named_come (rows_in old) (first_row change.cert.name change is.marks) rise (missing_rows old change.cert.name none) in
    (parts.0, ap by_name is.rows ∙ parts.1)

-- ---- what is known of the row at a place

pub at_row : (P : Row → Type 0) (es : List Named) (i : ℕ) (r : Row) → i < length es → slice_get (map (λ e. e.1) es) i ≡ Some r → ((d : Named) → P (get_or es i d).1) → P r
at_row P [] i r l at each = absurd (omega (arith, l))
at_row P (x ∷ es) i r l at each = subst P (row_is (x ∷ es) i x r at) (each x)

-- the row that was put at a place stands there
set_there : (es : List Named) (i : ℕ) (r : Row) (d : Named) → i < length es → (get_or (set_value_at es i r) i d).1 ≡ r
set_there [] i r d l = absurd (omega (arith, l))
set_there (x ∷ es) zero r d l = refl
set_there (x ∷ es) (suc i) r d l = set_there es i r d (omega (arith, l))

pub set_row : (P : Row → Type 0) (es : List Named) (i : ℕ) (r : Row) → i < length es → P r → (d : Named) → P (get_or (set_value_at es i r) i d).1
set_row P es i r l holds d = subst P (sym (set_there es i r d l)) holds

-- a row that says the same in its place
pub same_there : (es : List Named) (i : ℕ) (old new : Row) → i < length es → slice_get (map (λ e. e.1) es) i ≡ Some old → ((n : Vec ℕ Global) → data_of (n, new) ≡ data_of (n, old)) → rows_in (set_value_at es i new) ≡ rows_in es
same_there [] i old new l at says = absurd (omega (arith, l))
same_there (x ∷ es) i old new l at says =
    same_set (x ∷ es) i new x l (says (get_or (x ∷ es) i x).0 ∙ ap (λ (r : Row). data_of ((get_or (x ∷ es) i x).0, r)) (sym (row_is (x ∷ es) i x old at)))

pub chain_there : (es : List Named) (i : ℕ) (r : Row) (d : RowData) → i < length es → slice_get (map (λ e. e.1) es) i ≡ Some r → r.chain.items ≡ (get_or (rows_in es) i d).chain
chain_there [] i r d l at = absurd (omega (arith, l))
chain_there (x ∷ es) i r d l at = ap (λ (y : Row). y.chain.items) (sym (row_is (x ∷ es) i x r at)) ∙ ap (λ (y : RowData). y.chain) (sym (get_row (x ∷ es) i x d l))

pub marks_there : (es : List Named) (i : ℕ) (r : Row) (d : RowData) → i < length es → ((d : Named) → r ≡ (get_or es i d).1) → r.marks ≡ (get_or (rows_in es) i d).marks
marks_there [] i r d l is = absurd (omega (arith, l))
marks_there (x ∷ es) i r d l is = ap (λ (y : Row). y.marks) (is x) ∙ ap (λ (y : RowData). y.marks) (sym (get_row (x ∷ es) i x d l))

pub name_there : (es : List Named) (i : ℕ) (name : List ℕ) (d : RowData) → i < length es → ((d : Named) → (get_or es i d).0.items ≡ name) → (get_or (rows_in es) i d).name ≡ name
name_there [] i name d l is = absurd (omega (arith, l))
name_there (x ∷ es) i name d l is = ap (λ (y : RowData). y.name) (get_row (x ∷ es) i x d l) ∙ is x

-- how many changes wait there
pub waits_there : (es : List Named) (i : ℕ) (r : Row) (n : ℕ) (d : RowData) → i < length es → ((d : Named) → r ≡ (get_or es i d).1) → ((name : Vec ℕ Global) → n ≡ option_len (data_of (name, r)).waiting)
    → n ≡ option_len (get_or (rows_in es) i d).waiting
waits_there [] i r n d l is counts = absurd (omega (arith, l))
waits_there (x ∷ es) i r n d l is counts =
    counts x.0 ∙ ap (λ (y : Row). option_len (option_map pending_of y.waiting)) (is x) ∙ ap (λ (y : RowData). option_len y.waiting) (sym (get_row (x ∷ es) i x d l))

-- ---- from its parts

-- the marks of all rows, with those of the row at a place between the others
pub marks_named : (es : List Named) (i : ℕ) (name : List ℕ) (row : Row) → i < length es → IsTrue (is_sorted key_cmp (map chain_pair (data_in es)))
    → ((d : Named) → name ≡ (get_or es i d).0.items) → ((d : Named) → row ≡ (get_or es i d).1) → marks_of (data_in es) ≡ with_marks name row.marks es
marks_named [] i name row l rise is_name is_row = absurd (omega (arith, l))
marks_named (e ∷ es) i name row l rise is_name is_row =
    let all : List Named = e ∷ es in
    let r : RowData = get_or (rows_in all) i (data_of e) in
    let same : r ≡ data_of (get_or all i e) = get_row all i e (data_of e) l in
    let named : r.name ≡ name = ap (λ (x : RowData). x.name) same ∙ sym (is_name e) in
    let marks : r.marks ≡ row.marks = ap (λ (x : RowData). x.marks) same ∙ ap (λ (x : Row). x.marks) (sym (is_row e)) in
    ap marks_of (named_split (rows_in all) i (data_of e) (omega (arith, l, length_rows all)) rise)
    ∙ marks_with (lesser r.name (data_in all)) r (greater r.name (data_in all))
    ∙ (λ k. marks_of (lesser (named k) (data_in all)) ++ marks k ∷ marks_of (greater (named k) (data_in all)))

pub row_changed : (before es : List Named) (trie : Entries) (i : ℕ) (name : List ℕ) (row new : Row) (chain : List Change) (waiting : Option Pending) (marks : Marks)
    → i < length es → rows_in es ≡ rows_in before → AreRows (data_in before)
    → ((d : Named) → name ≡ (get_or es i d).0.items) → ((d : Named) → row ≡ (get_or es i d).1)
    → ((n : Vec ℕ Global) → data_of (n, new) ≡ with_row (data_of (n, row)) chain waiting marks)
    → 0 < length chain → marks.key ≡ row.marks.key → marks.pending_key ≡ row.marks.pending_key
    → marks.value ≡ value_of chain → marks.pending_value ≡ option_map pending_value waiting
    → trie ≡ from_entries (marked (with_marks name marks es))
    → (e : RowData) → IsChangedIn before (set_value_at es i new) trie i (get_or (rows_in before) i e) chain waiting
row_changed before [] trie i name row new chain waiting marks l same are is_name is_row is some key pending_key value pending tree e = absurd (omega (arith, l))
row_changed before (x ∷ es) trie i name row new chain waiting marks l same are is_name is_row is some key pending_key value pending tree e =
    let all : List Named = x ∷ es in
    let r : RowData = get_or (rows_in before) i e in
    let within : i < length (rows_in before) = omega (arith, l, length_rows all, ap length same) in
    let here : data_of (get_or all i x) ≡ r = sym (get_row all i x e l) ∙ ap (λ xs. get_or xs i e) same in
    let at : IsPlaced (data_in before) r = placed (rows_in before) i e within are.rise in
    let old : IsMarked r = subst IsMarked at.same (are.marked (place_of r.name (data_in before)) r at.within) in
    let own : row.marks ≡ r.marks = ap (λ (y : Row). y.marks) (is_row x) ∙ ap (λ (y : RowData). y.marks) here in
    let named : name ≡ r.name = is_name x ∙ ap (λ (y : RowData). y.name) here in
    let rows_is : rows_in (set_value_at all i new) ≡ take i (rows_in before) ++ with_row r chain waiting marks ∷ drop (i + 1) (rows_in before) =
    rows_set all i new x l ∙ (λ k. take i (same k) ++ (is (get_or all i x).0 ∙ ap (λ (y : RowData). with_row y chain waiting marks) here) k ∷ drop (i + 1) (same k)) in
    let now : data_in (set_value_at all i new) ≡ lesser r.name (data_in before) ++ with_row r chain waiting marks ∷ greater r.name (data_in before) =
    named_changed (rows_in before) (rows_in (set_value_at all i new)) i e (with_row r chain waiting marks) within are.rise refl rows_is in
    record {
      marks = marks;
      rows = rows_is;
      is_marked = record {
        some = some;
        key = key ∙ ap (λ (m : Marks). m.key) own ∙ old.key;
        value = value;
        pending_key = pending_key ∙ ap (λ (m : Marks). m.pending_key) own ∙ old.pending_key;
        pending_value = pending;
      };
      tree = tree ∙ ap (λ ms. from_entries (marked ms))
          ((λ k. marks_of (lesser (named k) (by_name (same k))) ++ marks ∷ marks_of (greater (named k) (by_name (same k))))
          ∙ sym (marks_with (lesser r.name (data_in before)) (with_row r chain waiting marks) (greater r.name (data_in before)))
          ∙ ap marks_of (sym now));
    }
