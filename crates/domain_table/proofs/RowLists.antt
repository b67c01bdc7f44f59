-- Rows as the table that they are: what is found under a name, the entries in their order, and a row that is
-- changed or comes in between two parts.
use Rattle.std.proofs.Common.{◌≡◌, ℕ, ◌+◌, ◌≤◌, ◌||◌, List, [], ◌∷◌, ◌++◌, map, length, refl, sym, ap, ◌∙◌, arith, Bool, true, false, cond, ◌&&◌, Option, Some, None}
use Rattle.std.specs.Prelude.{IsTrue, sum}
use Rattle.std.specs.List.{filter_map, cons_option, AllByRecursion}
use Rattle.std.specs.Option.{option_len, option_map, option_or}
use Rattle.std.specs.declared.cmp.Ordering.TheVariants.{Less}
use Rattle.std.specs.Ordering.{eq_by_cmp, is_eq, is_lt, ordering_reverse}
use Rattle.std.specs.FinMap.{FinMap, get, insert, remove, find, entries, is_sorted, from_entries, from_sorted, same_map, get-from_entries, get-from_sorted, entries-from_sorted, get-insert, get-remove}
use Rattle.std.specs.FinMap.Entries.{below_all}
use Rattle.std.proofs.lemmas.Float.{T_from_true}
use lib.Dec.{T}
use Rattle.std.proofs.lemmas.List.{map-append}
use Rattle.std.proofs.lemmas.List.Elements.{filter_map-append, recursion_from_All}
use Rattle.std.proofs.lemmas.List.Sums.{sum_by-cons}
use Rattle.std.proofs.lemmas.Bool.{and_from, and_parts}
use Rattle.ar_names.specs.Names.{name_string}
use Rattle.hash_tree.specs.Strings.{pending_key_string}
use Rattle.hash_tree.specs.Strings as strings
use Rattle.sha2.specs.Sha256.{sha256}
use Rattle.hash_tree.specs.Entries.{Entry, Entries, key_cmp}
use Rattle.hash_tree.proofs.Maps.{total, exact, less_is}
use Rattle.hash_tree.proofs.Changed.{same_key}
use Rattle.ar_cert.specs.Changes.{Change}
use Rattle.domain_table.specs.declared.row.Marks.{Marks}
use Rattle.domain_table.specs.Applying.{is_ripe_behind}
use Rattle.domain_table.specs.Tables.{Pending, newest, size}
use Rattle.domain_table.specs.Tree.{value_of, pending_value, valued, keyed, tree_entries}
use Rattle.domain_table.specs.Rows.{RowData, any_ripe, waiting_in, hit, chain_pair, pending_pair, table_of, name_entry, pending_entry, marked, marks_of, with_entry, IsMarked, AreRows}
use Rattle.domain_table.proofs.Keyed.{find_both}
use Rattle.domain_table.proofs.Once.{nothing_waits}
use Rattle.ar_base.proofs.Shown.{or_none}

-- ---- the order of names

-- the entries of an ascending list are the list
pub entries_list : {V : Type 0} (es : List (List ℕ × V)) → IsTrue (is_sorted key_cmp es) → entries (from_entries {R = key_cmp} es) ≡ es
entries_list es rise =
    let sorted : T (is_sorted key_cmp es) = T_from_true _ rise in
    let same : from_entries es ≡ from_sorted es = same_map total exact _ _ (λ q. get-from_entries total es q ∙ sym (get-from_sorted key_cmp es q sorted)) in
    ap entries same ∙ entries-from_sorted key_cmp es sorted

-- a name that is less than all is none of them
none_below : {V : Type 0} (q : List ℕ) (es : List (List ℕ × V)) → below_all key_cmp q es ≡ true → find key_cmp q es ≡ None
none_below q [] h = refl
none_below q (e ∷ es) h =
    let less : key_cmp q e.0 ≡ Less = less_is (key_cmp q e.0) (and_parts (is_lt (key_cmp q e.0)) _ h).0 in
    ap (λ o. cond (is_eq o) (Some e.1) (find key_cmp q es)) less ∙ none_below q es (and_parts (is_lt (key_cmp q e.0)) _ h).1

-- a name that is greater than another does not tie with it
greater_apart : (q k : List ℕ) → key_cmp k q ≡ Less → eq_by_cmp key_cmp q k ≡ false
greater_apart q k less = ap is_eq (total.antisymm q k ∙ ap ordering_reverse less)

-- ---- a row between two parts

-- in ascending rows the names before a row are less, and those behind it are greater
pub record Between (front : List RowData) (r : RowData) (back : List RowData) : Type 0 where
  pub before : find key_cmp r.name (map chain_pair front) ≡ None
  pub behind : find key_cmp r.name (map chain_pair back) ≡ None

pub less_than_row : (x : List ℕ) (front : List RowData) (r : RowData) (back : List RowData) → below_all key_cmp x (map chain_pair (front ++ r ∷ back)) ≡ true → key_cmp x r.name ≡ Less
less_than_row x [] r back h = less_is (key_cmp x r.name) (and_parts (is_lt (key_cmp x r.name)) _ h).0
less_than_row x (f ∷ front) r back h = less_than_row x front r back (and_parts (is_lt (key_cmp x f.name)) _ h).1

pub between : (front : List RowData) (r : RowData) (back : List RowData) → IsTrue (is_sorted key_cmp (map chain_pair (front ++ r ∷ back))) → Between front r back
between [] r back rise = record { before = refl; behind = none_below r.name (map chain_pair back) (and_parts (below_all key_cmp r.name (map chain_pair back)) _ rise).0 }
between (f ∷ front) r back rise =
    let rest : Between front r back = between front r back (and_parts (below_all key_cmp f.name (map chain_pair (front ++ r ∷ back))) _ rise).1 in
    let less : key_cmp f.name r.name ≡ Less = less_than_row f.name front r back (and_parts (below_all key_cmp f.name (map chain_pair (front ++ r ∷ back))) _ rise).0 in
    record {
      before = ap (λ b. cond b (Some f.chain) (find key_cmp r.name (map chain_pair front))) (greater_apart r.name f.name less) ∙ rest.before;
      behind = rest.behind;
    }

-- what waits stands under names of rows
pub none_waits : (q : List ℕ) (rows : List RowData) → find key_cmp q (map chain_pair rows) ≡ None → find key_cmp q (filter_map pending_pair rows) ≡ None
none_waits q [] h = refl
none_waits q (r ∷ rows) h = at (eq_by_cmp key_cmp q r.name) refl h (none_waits q rows) where
  by : (o : Option Pending) → eq_by_cmp key_cmp q r.name ≡ false → find key_cmp q (filter_map pending_pair rows) ≡ None
      → find key_cmp q (filter_map pending_pair (r ∷ rows)) ≡ None → find key_cmp q (filter_map pending_pair (r ∷ rows)) ≡ None
  by o apart rest is = is

  at : (b : Bool) → eq_by_cmp key_cmp q r.name ≡ b → cond b (Some r.chain) (find key_cmp q (map chain_pair rows)) ≡ None
      → (find key_cmp q (map chain_pair rows) ≡ None → find key_cmp q (filter_map pending_pair rows) ≡ None) → find key_cmp q (filter_map pending_pair (r ∷ rows)) ≡ None
  at true tied h rest = absurd (cc)
  at false apart h rest = head r.waiting (rest h) where
    head : (w : Option Pending) → find key_cmp q (filter_map pending_pair rows) ≡ None → find key_cmp q (filter_map pending_pair (record { name = r.name; chain = r.chain; waiting = w; marks = r.marks } ∷ rows)) ≡ None
    head None rest = rest
    head (Some w) rest = ap (λ b. cond b (Some w) (find key_cmp q (filter_map pending_pair rows))) apart ∙ rest

-- ---- what is found in parts

find_cons : {V : Type 0} (q : List ℕ) (o : Option (List ℕ × V)) (es : List (List ℕ × V)) → find key_cmp q (cons_option o es) ≡ option_or (hit q o) (find key_cmp q es)
find_cons q None es = refl
find_cons {V} q (Some e) es = at (eq_by_cmp key_cmp q e.0) where
  at : (b : Bool) → cond b (Some e.1) (find key_cmp q es) ≡ option_or (cond b (Some e.1) None) (find key_cmp q es)
  at true = refl
  at false = refl

pub split_map : {A V : Type 0} (h : A → List ℕ × V) (front : List A) (r : A) (back : List A) (q : List ℕ) → find key_cmp q (map h (front ++ r ∷ back))
    ≡ option_or (find key_cmp q (map h front)) (cond (eq_by_cmp key_cmp q (h r).0) (Some (h r).1) (find key_cmp q (map h back)))
split_map h front r back q = ap (find key_cmp q) (map-append h front (r ∷ back)) ∙ find_both (map h front) (map h (r ∷ back)) q

pub join_map : {A V : Type 0} (h : A → List ℕ × V) (front back : List A) (q : List ℕ) → find key_cmp q (map h (front ++ back)) ≡ option_or (find key_cmp q (map h front)) (find key_cmp q (map h back))
join_map h front back q = ap (find key_cmp q) (map-append h front back) ∙ find_both (map h front) (map h back) q

pub split_filtered : {A V : Type 0} (h : A → Option (List ℕ × V)) (front : List A) (r : A) (back : List A) (q : List ℕ) → find key_cmp q (filter_map h (front ++ r ∷ back))
    ≡ option_or (find key_cmp q (filter_map h front)) (option_or (hit q (h r)) (find key_cmp q (filter_map h back)))
split_filtered h front r back q =
    ap (find key_cmp q) (filter_map-append h front (r ∷ back)) ∙ find_both (filter_map h front) (filter_map h (r ∷ back)) q
    ∙ ap (option_or (find key_cmp q (filter_map h front))) (find_cons q (h r) (filter_map h back))

pub join_filtered : {A V : Type 0} (h : A → Option (List ℕ × V)) (front back : List A) (q : List ℕ) → find key_cmp q (filter_map h (front ++ back))
    ≡ option_or (find key_cmp q (filter_map h front)) (find key_cmp q (filter_map h back))
join_filtered h front back q = ap (find key_cmp q) (filter_map-append h front back) ∙ find_both (filter_map h front) (filter_map h back) q

-- what waits in a row, for a name
hit_pending : (q : List ℕ) (r : RowData) → hit q (pending_pair r) ≡ cond (eq_by_cmp key_cmp q r.name) (r.waiting) None
hit_pending q r = at (r.waiting) (eq_by_cmp key_cmp q r.name) where
  none : (b : Bool) → None ≡ cond {A = Option Pending} b None None
  none true = refl
  none false = refl

  at : (o : Option Pending) (b : Bool) → hit q (option_map (λ p. (r.name, p)) o) ≡ cond (eq_by_cmp key_cmp q r.name) o None
  at None b = none (eq_by_cmp key_cmp q r.name)
  at (Some p) b = refl

-- ---- a row that changes

-- the chains with another chain for the row
pub changed_chains : (front : List RowData) (r other : RowData) (back : List RowData) → IsTrue (is_sorted key_cmp (map chain_pair (front ++ r ∷ back))) → other.name ≡ r.name
    → (table_of (front ++ other ∷ back)).chains ≡ insert (table_of (front ++ r ∷ back)).chains r.name other.chain
changed_chains front r other back rise same = same_map total exact _ _ (λ q.
    get-from_entries total (map chain_pair (front ++ other ∷ back)) q ∙ split_map chain_pair front other back q
    ∙ ap (λ n. option_or (find key_cmp q (map chain_pair front)) (cond (eq_by_cmp key_cmp q n) (Some other.chain) (find key_cmp q (map chain_pair back)))) same
    ∙ at q (eq_by_cmp key_cmp q r.name) refl
    ∙ sym (get-insert total (from_entries (map chain_pair (front ++ r ∷ back))) r.name other.chain q
    ∙ ap (cond (eq_by_cmp key_cmp q r.name) (Some other.chain)) (get-from_entries total (map chain_pair (front ++ r ∷ back)) q ∙ split_map chain_pair front r back q))) where
      at : (q : List ℕ) (b : Bool) → eq_by_cmp key_cmp q r.name ≡ b
          → option_or (find key_cmp q (map chain_pair front)) (cond (eq_by_cmp key_cmp q r.name) (Some other.chain) (find key_cmp q (map chain_pair back)))
          ≡ cond (eq_by_cmp key_cmp q r.name) (Some other.chain) (option_or (find key_cmp q (map chain_pair front)) (cond (eq_by_cmp key_cmp q r.name) (Some r.chain) (find key_cmp q (map chain_pair back))))
      at q true tied =
          let none : find key_cmp q (map chain_pair front) ≡ None = ap (λ k. find key_cmp k (map chain_pair front)) (same_key q r.name tied) ∙ (between front r back rise).before in
          rw (tied, none) refl
      at q false apart = rw apart refl

-- what waits, with something else for the row
pub waits_at : (front : List RowData) (r : RowData) (back : List RowData) (q : List ℕ) → find key_cmp q (filter_map pending_pair (front ++ r ∷ back))
    ≡ option_or (find key_cmp q (filter_map pending_pair front)) (option_or (cond (eq_by_cmp key_cmp q r.name) (r.waiting) None) (find key_cmp q (filter_map pending_pair back)))
waits_at front r back q =
    split_filtered pending_pair front r back q
    ∙ ap (λ o. option_or (find key_cmp q (filter_map pending_pair front)) (option_or o (find key_cmp q (filter_map pending_pair back)))) (hit_pending q r)

-- a map of what waits, with this for a name
abbrev pub with_pending : FinMap key_cmp Pending → List ℕ → Option Pending → FinMap key_cmp Pending
with_pending m name (Some p) = insert m name p
with_pending m name None = remove m name

get-with_pending : (m : FinMap key_cmp Pending) (name : List ℕ) (o : Option Pending) (q : List ℕ) → get (with_pending m name o) q ≡ cond (eq_by_cmp key_cmp q name) o (get m q)
get-with_pending m name None q = get-remove total m name q
get-with_pending m name (Some p) q = get-insert total m name p q

pub changed_waiting : (front : List RowData) (r other : RowData) (back : List RowData) → IsTrue (is_sorted key_cmp (map chain_pair (front ++ r ∷ back))) → other.name ≡ r.name
    → (table_of (front ++ other ∷ back)).waiting ≡ with_pending (table_of (front ++ r ∷ back)).waiting r.name other.waiting
changed_waiting front r other back rise same = same_map total exact _ _ (λ q.
    get-from_entries total (filter_map pending_pair (front ++ other ∷ back)) q ∙ waits_at front other back q
    ∙ ap (λ n. option_or (find key_cmp q (filter_map pending_pair front)) (option_or (cond (eq_by_cmp key_cmp q n) other.waiting None) (find key_cmp q (filter_map pending_pair back)))) same
    ∙ at q (eq_by_cmp key_cmp q r.name) refl
    ∙ sym (get-with_pending (from_entries (filter_map pending_pair (front ++ r ∷ back))) r.name other.waiting q
    ∙ ap (cond (eq_by_cmp key_cmp q r.name) other.waiting) (get-from_entries total (filter_map pending_pair (front ++ r ∷ back)) q ∙ waits_at front r back q))) where
      at : (q : List ℕ) (b : Bool) → eq_by_cmp key_cmp q r.name ≡ b
          → option_or (find key_cmp q (filter_map pending_pair front)) (option_or (cond (eq_by_cmp key_cmp q r.name) other.waiting None) (find key_cmp q (filter_map pending_pair back)))
          ≡ cond (eq_by_cmp key_cmp q r.name) other.waiting
          (option_or (find key_cmp q (filter_map pending_pair front)) (option_or (cond (eq_by_cmp key_cmp q r.name) (r.waiting) None) (find key_cmp q (filter_map pending_pair back))))
      at q true tied =
          let parts : Between front r back = between front r back rise in
          let before : find key_cmp q (filter_map pending_pair front) ≡ None = ap (λ k. find key_cmp k (filter_map pending_pair front)) (same_key q r.name tied) ∙ none_waits r.name front parts.before in
          let behind : find key_cmp q (filter_map pending_pair back) ≡ None = ap (λ k. find key_cmp k (filter_map pending_pair back)) (same_key q r.name tied) ∙ none_waits r.name back parts.behind in
          rw (tied, before, behind) (or_none other.waiting)
      at q false apart = rw apart refl

-- ---- a row that comes in

pub came_chains : (front : List RowData) (r : RowData) (back : List RowData) → find key_cmp r.name (map chain_pair (front ++ back)) ≡ None
    → (table_of (front ++ r ∷ back)).chains ≡ insert (table_of (front ++ back)).chains r.name r.chain
came_chains front r back absent = same_map total exact _ _ (λ q.
    get-from_entries total (map chain_pair (front ++ r ∷ back)) q ∙ split_map chain_pair front r back q
    ∙ at q (eq_by_cmp key_cmp q r.name) refl
    ∙ sym (get-insert total (from_entries (map chain_pair (front ++ back))) r.name r.chain q
    ∙ ap (cond (eq_by_cmp key_cmp q r.name) (Some r.chain)) (get-from_entries total (map chain_pair (front ++ back)) q ∙ join_map chain_pair front back q))) where
      first : (o p : Option (List Change)) → option_or o p ≡ None → o ≡ None
      first None p e = refl
      first (Some x) p e = absurd (cc)

      at : (q : List ℕ) (b : Bool) → eq_by_cmp key_cmp q r.name ≡ b
          → option_or (find key_cmp q (map chain_pair front)) (cond (eq_by_cmp key_cmp q r.name) (Some r.chain) (find key_cmp q (map chain_pair back)))
          ≡ cond (eq_by_cmp key_cmp q r.name) (Some r.chain) (option_or (find key_cmp q (map chain_pair front)) (find key_cmp q (map chain_pair back)))
      at q true tied =
          let none : find key_cmp q (map chain_pair front) ≡ None =
          ap (λ k. find key_cmp k (map chain_pair front)) (same_key q r.name tied)
          ∙ first (find key_cmp r.name (map chain_pair front)) (find key_cmp r.name (map chain_pair back)) (sym (join_map chain_pair front back r.name) ∙ absent) in
          rw (tied, none) refl
      at q false apart = rw apart refl

pub came_waiting : (front : List RowData) (r : RowData) (back : List RowData) → find key_cmp r.name (map chain_pair (front ++ back)) ≡ None → r.waiting ≡ None
    → (table_of (front ++ r ∷ back)).waiting ≡ remove (table_of (front ++ back)).waiting r.name
came_waiting front r back absent free = same_map total exact _ _ (λ q.
    get-from_entries total (filter_map pending_pair (front ++ r ∷ back)) q ∙ waits_at front r back q
    ∙ ap (λ o. option_or (find key_cmp q (filter_map pending_pair front)) (option_or (cond (eq_by_cmp key_cmp q r.name) o None) (find key_cmp q (filter_map pending_pair back)))) free
    ∙ ap (λ o. option_or (find key_cmp q (filter_map pending_pair front)) (option_or o (find key_cmp q (filter_map pending_pair back)))) (none (eq_by_cmp key_cmp q r.name))
    ∙ sym (join_filtered pending_pair front back q)
    ∙ at q (eq_by_cmp key_cmp q r.name) refl
    ∙ sym (get-remove total (from_entries (filter_map pending_pair (front ++ back))) r.name q
    ∙ ap (cond (eq_by_cmp key_cmp q r.name) None) (get-from_entries total (filter_map pending_pair (front ++ back)) q))) where
      none : (b : Bool) → cond {A = Option Pending} b None None ≡ None
      none true = refl
      none false = refl

      at : (q : List ℕ) (b : Bool) → eq_by_cmp key_cmp q r.name ≡ b
          → find key_cmp q (filter_map pending_pair (front ++ back)) ≡ cond (eq_by_cmp key_cmp q r.name) None (find key_cmp q (filter_map pending_pair (front ++ back)))
      at q true tied =
          ap (λ k. find key_cmp k (filter_map pending_pair (front ++ back))) (same_key q r.name tied) ∙ none_waits r.name (front ++ back) absent
          ∙ sym (ap (λ b. cond b None (find key_cmp q (filter_map pending_pair (front ++ back)))) tied)
      at q false apart = sym (ap (λ b. cond b None (find key_cmp q (filter_map pending_pair (front ++ back)))) apart)

-- ---- names still ascend

below_changed : (x : List ℕ) (front : List RowData) (r other : RowData) (back : List RowData) → other.name ≡ r.name
    → below_all key_cmp x (map chain_pair (front ++ other ∷ back)) ≡ below_all key_cmp x (map chain_pair (front ++ r ∷ back))
below_changed x [] r other back same = ap (λ n. is_lt (key_cmp x n) && below_all key_cmp x (map chain_pair back)) same
below_changed x (f ∷ front) r other back same = ap (λ b. is_lt (key_cmp x f.name) && b) (below_changed x front r other back same)

pub rise_changed : (front : List RowData) (r other : RowData) (back : List RowData) → other.name ≡ r.name
    → is_sorted key_cmp (map chain_pair (front ++ other ∷ back)) ≡ is_sorted key_cmp (map chain_pair (front ++ r ∷ back))
rise_changed [] r other back same = ap (λ n. below_all key_cmp n (map chain_pair back) && is_sorted key_cmp (map chain_pair back)) same
rise_changed (f ∷ front) r other back same = λ i. below_changed f.name front r other back same i && rise_changed front r other back same i

below_came : (x : List ℕ) (front : List RowData) (r : RowData) (back : List RowData) → below_all key_cmp x (map chain_pair (front ++ back)) ≡ true → key_cmp x r.name ≡ Less
    → below_all key_cmp x (map chain_pair (front ++ r ∷ back)) ≡ true
below_came x [] r back h less = and_from (is_lt (key_cmp x r.name)) (below_all key_cmp x (map chain_pair back)) (ap is_lt less) h
below_came x (f ∷ front) r back h less =
    and_from (is_lt (key_cmp x f.name)) (below_all key_cmp x (map chain_pair (front ++ r ∷ back))) (and_parts _ (below_all key_cmp x (map chain_pair (front ++ back))) h).0
    (below_came x front r back (and_parts (is_lt (key_cmp x f.name)) _ h).1 less)

pub rise_came : (front : List RowData) (r : RowData) (back : List RowData) → IsTrue (is_sorted key_cmp (map chain_pair (front ++ back))) → AllByRecursion (λ f. key_cmp f.name r.name ≡ Less) front
    → below_all key_cmp r.name (map chain_pair back) ≡ true → IsTrue (is_sorted key_cmp (map chain_pair (front ++ r ∷ back)))
rise_came [] r back rise less greater = and_from (below_all key_cmp r.name (map chain_pair back)) (is_sorted key_cmp (map chain_pair back)) greater rise
rise_came (f ∷ front) r back rise less greater =
    and_from (below_all key_cmp f.name (map chain_pair (front ++ r ∷ back))) (is_sorted key_cmp (map chain_pair (front ++ r ∷ back)))
    (below_came f.name front r back (and_parts _ (is_sorted key_cmp (map chain_pair (front ++ back))) rise).0 less.0)
    (rise_came front r back (and_parts (below_all key_cmp f.name (map chain_pair (front ++ back))) _ rise).1 less.1 greater)

-- names for which something waits ascend too
below_waits : (x : List ℕ) (rows : List RowData) → below_all key_cmp x (map chain_pair rows) ≡ true → below_all key_cmp x (filter_map pending_pair rows) ≡ true
below_waits x [] h = refl
below_waits x (r ∷ rows) h = at (r.waiting) (below_waits x rows (and_parts (is_lt (key_cmp x r.name)) _ h).1) where
  at : (o : Option Pending) → below_all key_cmp x (filter_map pending_pair rows) ≡ true → below_all key_cmp x (cons_option (option_map (λ p. (r.name, p)) o) (filter_map pending_pair rows)) ≡ true
  at None rest = rest
  at (Some p) rest = and_from (is_lt (key_cmp x r.name)) (below_all key_cmp x (filter_map pending_pair rows)) (and_parts _ (below_all key_cmp x (map chain_pair rows)) h).0 rest

pub waits_rise : (rows : List RowData) → IsTrue (is_sorted key_cmp (map chain_pair rows)) → IsTrue (is_sorted key_cmp (filter_map pending_pair rows))
waits_rise [] h = refl
waits_rise (r ∷ rows) h = at (r.waiting) (waits_rise rows (and_parts (below_all key_cmp r.name (map chain_pair rows)) _ h).1) where
  at : (o : Option Pending) → is_sorted key_cmp (filter_map pending_pair rows) ≡ true → is_sorted key_cmp (cons_option (option_map (λ p. (r.name, p)) o) (filter_map pending_pair rows)) ≡ true
  at None rest = rest
  at (Some p) rest =
      and_from (below_all key_cmp r.name (filter_map pending_pair rows)) (is_sorted key_cmp (filter_map pending_pair rows))
      (below_waits r.name rows (and_parts (below_all key_cmp r.name (map chain_pair rows)) _ h).0) rest

-- ---- the entries of rows

named : (rows : List RowData) → AllByRecursion IsMarked rows → keyed (valued name_string value_of (map chain_pair rows)) ≡ map name_entry (marks_of rows)
named [] are = refl
named (r ∷ rows) are =
    let key = sym are.0.key in
    let value = sym are.0.value in
    λ i. (key i, value i) ∷ named rows are.1 i

waiting_named : (rows : List RowData) → AllByRecursion IsMarked rows → keyed (valued pending_key_string pending_value (filter_map pending_pair rows)) ≡ filter_map pending_entry (marks_of rows)
waiting_named [] are = refl
waiting_named (r ∷ rows) are =
    at (r.waiting) (waiting_named rows are.1)
    ∙ ap (λ v. cons_option (option_map (λ x. (strings.pending_key r.name, x)) v) (filter_map pending_entry (marks_of rows))) (sym are.0.pending_value)
    ∙ ap (λ k. cons_option (option_map (λ x. (k, x)) r.marks.pending_value) (filter_map pending_entry (marks_of rows))) (sym are.0.pending_key) where
      at : (o : Option Pending) → keyed (valued pending_key_string pending_value (filter_map pending_pair rows)) ≡ filter_map pending_entry (marks_of rows)
          → keyed (valued pending_key_string pending_value (cons_option (option_map (λ p. (r.name, p)) o) (filter_map pending_pair rows)))
          ≡ cons_option (option_map (λ x. (strings.pending_key r.name, x)) (option_map pending_value o)) (filter_map pending_entry (marks_of rows))
      at None rest = rest
      at (Some p) rest = λ i. (strings.pending_key r.name, pending_value p) ∷ rest i

pub tree_rows : (rows : List RowData) → AreRows rows → tree_entries (table_of rows) ≡ from_entries (marked (marks_of rows))
unfolding tree_entries
tree_rows rows are =
    ap from_entries
    (ap (λ es. keyed (valued name_string value_of es ++ valued pending_key_string pending_value (entries (table_of rows).waiting))) (entries_list (map chain_pair rows) are.rise)
    ∙ ap (λ es. keyed (valued name_string value_of (map chain_pair rows) ++ valued pending_key_string pending_value es)) (entries_list (filter_map pending_pair rows) (waits_rise rows are.rise))
    ∙ map-append (λ e. (sha256 e.0, e.1)) (valued name_string value_of (map chain_pair rows)) (valued pending_key_string pending_value (filter_map pending_pair rows))
    ∙ (λ i. named rows (recursion_from_All IsMarked rows are.marked) i ++ waiting_named rows (recursion_from_All IsMarked rows are.marked) i))

-- ---- how many there are

abbrev pub places : List RowData → ℕ
places [] = 0
places (r ∷ rows) = (length r.chain + option_len r.waiting) + places rows

pub places_split : (front : List RowData) (r : RowData) (back : List RowData) → places (front ++ r ∷ back) ≡ places (front ++ back) + (length r.chain + option_len r.waiting)
places_split [] r back = omega arith
places_split (f ∷ front) r back = let rest = places_split front r back in omega (arith, rest)

lengths : (rows : List RowData) → sum (map (λ e. length e.1) (map chain_pair rows)) + length (filter_map pending_pair rows) ≡ places rows
lengths [] = refl
lengths (r ∷ rows) =
    let first = sum_by-cons (λ x. x) (length r.chain) (map (λ e. length e.1) (map chain_pair rows)) in
    let rest = lengths rows in
    at r.waiting first rest where
      at : (w : Option Pending) → sum (length r.chain ∷ map (λ e. length e.1) (map chain_pair rows)) ≡ length r.chain + sum (map (λ e. length e.1) (map chain_pair rows))
          → sum (map (λ e. length e.1) (map chain_pair rows)) + length (filter_map pending_pair rows) ≡ places rows
          → sum (length r.chain ∷ map (λ e. length e.1) (map chain_pair rows)) + length (cons_option (option_map (λ p. (r.name, p)) w) (filter_map pending_pair rows))
          ≡ (length r.chain + option_len w) + places rows
      at None first rest = omega (arith, first, rest)
      at (Some w) first rest = omega (arith, first, rest)

pub size_rows : (rows : List RowData) → IsTrue (is_sorted key_cmp (map chain_pair rows)) → size (table_of rows) ≡ places rows
size_rows rows rise =
    ap (λ es. sum (map (λ e. length e.1) es) + length (entries (table_of rows).waiting)) (entries_list (map chain_pair rows) rise)
    ∙ ap (λ es. sum (map (λ e. length e.1) (map chain_pair rows)) + length es) (entries_list (filter_map pending_pair rows) (waits_rise rows rise))
    ∙ lengths rows

-- in how many something waits
waiting_first : (r : RowData) (rows : List RowData) → waiting_in (r ∷ rows) ≡ option_len r.waiting + waiting_in rows
waiting_first r rows = at r.waiting where
  at : (w : Option Pending) → length (cons_option (option_map (λ p. (r.name, p)) w) (filter_map pending_pair rows)) ≡ option_len w + length (filter_map pending_pair rows)
  at None = omega arith
  at (Some p) = omega arith

pub waiting_split : (front : List RowData) (r : RowData) (back : List RowData) → waiting_in (front ++ r ∷ back) ≡ waiting_in (front ++ back) + option_len r.waiting
waiting_split [] r back = let first = waiting_first r back in omega (arith, first)
waiting_split (f ∷ front) r back =
    let with_row = waiting_first f (front ++ r ∷ back) in
    let without = waiting_first f (front ++ back) in
    let rest = waiting_split front r back in
    omega (arith, with_row, without, rest)

pub waiting_places : (rows : List RowData) → waiting_in rows ≤ places rows
waiting_places [] = omega arith
waiting_places (r ∷ rows) =
    let first = waiting_first r rows in
    let rest = waiting_places rows in
    omega (arith, first, rest)

pub none_ripe : (e : ℕ) (rows : List RowData) → waiting_in rows ≡ 0 → any_ripe e rows ≡ false
none_ripe e [] none = refl
none_ripe e (r ∷ rows) none =
    let first = waiting_first r rows in
    λ j. at r.waiting (omega (arith, first, none)) j || none_ripe e rows (omega (arith, first, none)) j where
      at : (w : Option Pending) → option_len w ≡ 0 → is_ripe_behind e (newest r.chain) w ≡ false
      at None none = nothing_waits e (newest r.chain)
      at (Some p) none = absurd (omega (arith, none))

-- ---- the tree after a change

get-with_entry : (m : Entries) (key : List ℕ) (o : Option (List ℕ)) (q : List ℕ) → get (with_entry m key o) q ≡ cond (eq_by_cmp key_cmp q key) o (get m q)
get-with_entry m key None q = get-remove total m key q
get-with_entry m key (Some v) q = get-insert total m key v q

-- where two lists differ under one key alone, the map of the one with what the other has there is that of the other
pub one_refreshed : (es fs : List Entry) (key : List ℕ) → ((q : List ℕ) → eq_by_cmp key_cmp q key ≡ false → find key_cmp q fs ≡ find key_cmp q es)
    → with_entry (from_entries es) key (find key_cmp key fs) ≡ from_entries fs
one_refreshed es fs key alike = same_map total exact _ _ (λ q.
    get-with_entry (from_entries es) key (find key_cmp key fs) q ∙ ap (cond (eq_by_cmp key_cmp q key) (find key_cmp key fs)) (get-from_entries total es q)
    ∙ at q (eq_by_cmp key_cmp q key) refl ∙ sym (get-from_entries total fs q)) where
      at : (q : List ℕ) (b : Bool) → eq_by_cmp key_cmp q key ≡ b → cond (eq_by_cmp key_cmp q key) (find key_cmp key fs) (find key_cmp q es) ≡ find key_cmp q fs
      at q true tied = ap (λ b. cond b (find key_cmp key fs) (find key_cmp q es)) tied ∙ ap (λ k. find key_cmp k fs) (sym (same_key q key tied))
      at q false apart = ap (λ b. cond b (find key_cmp key fs) (find key_cmp q es)) apart ∙ sym (alike q apart)

-- and under two keys
pub two_refreshed : (es fs : List Entry) (one other : List ℕ) → ((q : List ℕ) → eq_by_cmp key_cmp q one ≡ false → eq_by_cmp key_cmp q other ≡ false → find key_cmp q fs ≡ find key_cmp q es)
    → with_entry (with_entry (from_entries es) one (find key_cmp one fs)) other (find key_cmp other fs) ≡ from_entries fs
two_refreshed es fs one other alike = same_map total exact _ _ (λ q.
    get-with_entry (with_entry (from_entries es) one (find key_cmp one fs)) other (find key_cmp other fs) q
    ∙ ap (cond (eq_by_cmp key_cmp q other) (find key_cmp other fs)) (get-with_entry (from_entries es) one (find key_cmp one fs) q ∙ ap (cond (eq_by_cmp key_cmp q one) (find key_cmp one fs)) (get-from_entries total es q))
    ∙ at q (eq_by_cmp key_cmp q other) (eq_by_cmp key_cmp q one) refl refl ∙ sym (get-from_entries total fs q)) where
      at : (q : List ℕ) (b c : Bool) → eq_by_cmp key_cmp q other ≡ b → eq_by_cmp key_cmp q one ≡ c
          → cond (eq_by_cmp key_cmp q other) (find key_cmp other fs) (cond (eq_by_cmp key_cmp q one) (find key_cmp one fs) (find key_cmp q es)) ≡ find key_cmp q fs
      at q true c tied e = rw tied (ap (λ k. find key_cmp k fs) (sym (same_key q other tied)))
      at q false true apart tied = rw (apart, tied) (ap (λ k. find key_cmp k fs) (sym (same_key q one tied)))
      at q false false apart also = rw (apart, also) (sym (alike q also apart))

-- what marks in the middle have under a key
pub marks_split : (front : List Marks) (m : Marks) (back : List Marks) (q : List ℕ) → find key_cmp q (marked (front ++ m ∷ back))
    ≡ option_or (option_or (find key_cmp q (map name_entry front)) (cond (eq_by_cmp key_cmp q m.key) (Some m.value) (find key_cmp q (map name_entry back))))
    (option_or (find key_cmp q (filter_map pending_entry front)) (option_or (hit q (pending_entry m)) (find key_cmp q (filter_map pending_entry back))))
marks_split front m back q =
    find_both (map name_entry (front ++ m ∷ back)) (filter_map pending_entry (front ++ m ∷ back)) q
    ∙ (λ i. option_or (split_map name_entry front m back q i) (split_filtered pending_entry front m back q i))

pub marks_join : (front back : List Marks) (q : List ℕ) → find key_cmp q (marked (front ++ back))
    ≡ option_or (option_or (find key_cmp q (map name_entry front)) (find key_cmp q (map name_entry back))) (option_or (find key_cmp q (filter_map pending_entry front)) (find key_cmp q (filter_map pending_entry back)))
marks_join front back q =
    find_both (map name_entry (front ++ back)) (filter_map pending_entry (front ++ back)) q
    ∙ (λ i. option_or (join_map name_entry front back q i) (join_filtered pending_entry front back q i))
