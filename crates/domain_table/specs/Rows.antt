-- What the code keeps for a table: rows by name, in the order in which they came, each with what it has in the integrity tree.
-- What they say is told in the order of names.
use Rattle.std.specs.Borrow.{Bor}
use Rattle.std.specs.Prelude.{Vec, [], ◌≡◌, ℕ, ◌<◌, ◌≤◌, List, ◌∷◌, ◌++◌, map, length, take, drop, ◌+◌, Bool, true, false, if◌then◌else◌, filter, All, IsTrue, Option, Some, None}
use Rattle.std.specs.declared.alloc.Global.{Global}
use Rattle.std.specs.List.{AllByRecursion, filter_map, list_any}
use Rattle.std.specs.Option.{option_map}
use Rattle.std.specs.Ordering.{eq_by_cmp, is_lt}
use Rattle.std.specs.FinMap.{find, from_entries, insert, len, remove, is_sorted}
use Rattle.ar_names.specs.Names.{name_digest_of}
use Rattle.hash_tree.specs.Strings as strings
use Rattle.hash_tree.specs.Entries.{Entry, Entries, key_cmp}
use Rattle.ar_cert.specs.Changes.{Change}
use Rattle.ar_cert.specs.Certificate.{Certificate}
use Rattle.domain_table.specs.declared.row.Waiting.{Waiting}
use Rattle.domain_table.specs.declared.row.Marks.{Marks}
use Rattle.domain_table.specs.declared.row.Row.{Row}
use Rattle.domain_table.specs.declared.row.Listed.{Listed}
use Rattle.domain_table.specs.Tables.{Pending, Table, newest, size}
use Rattle.domain_table.specs.Applying.{is_ripe_behind, most_kept, ripen}
use Rattle.domain_table.specs.Tree.{value_of, pending_value}

-- what a row says, whatever room its vectors keep
pub record RowData : Type 0 where
  pub name : List ℕ
  pub chain : List Change
  pub waiting : Option Pending
  pub marks : Marks

-- what waits, as the table has it
abbrev pub pending_of : Waiting → Pending
pending_of w = record { change = w.change; since = w.since }

-- an entry of the map: a name, and its row
abbrev pub Named : Type 0
Named = Vec ℕ Global × Row

abbrev pub data_of : Named → RowData
data_of e = record { name = e.0.items; chain = e.1.chain.items; waiting = option_map pending_of e.1.waiting; marks = e.1.marks }

-- the rows in the order in which they came
abbrev pub rows_in : List Named → List RowData
rows_in es = map data_of es

-- a row put before the first whose name is greater
abbrev pub put_row : RowData → List RowData → List RowData
put_row r [] = r ∷ []
put_row r (s ∷ rows) = if is_lt (key_cmp r.name s.name) then r ∷ s ∷ rows else s ∷ put_row r rows

-- rows, with each of a list put among them
abbrev pub put_rows : List RowData → List RowData → List RowData
put_rows rows [] = rows
put_rows rows (r ∷ more) = put_rows (put_row r rows) more

-- rows in the order of their names
abbrev pub by_name : List RowData → List RowData
by_name rows = put_rows [] rows

-- the rows of a map in the order of their names
abbrev pub data_in : List Named → List RowData
data_in es = by_name (rows_in es)

-- the rows with a lesser name, and those with a greater one
abbrev pub lesser : List ℕ → List RowData → List RowData
lesser name rows = filter (λ r. is_lt (key_cmp r.name name)) rows

abbrev pub greater : List ℕ → List RowData → List RowData
greater name rows = filter (λ r. is_lt (key_cmp name r.name)) rows

-- a name with its chain
abbrev pub chain_pair : RowData → List ℕ × List Change
chain_pair r = (r.name, r.chain)

-- a name with what waits for it
abbrev pub pending_pair : RowData → Option (List ℕ × Pending)
pending_pair r = option_map (λ p. (r.name, p)) r.waiting

-- the table that rows are
abbrev pub table_of : List RowData → Table
table_of rows = record { chains = from_entries (map chain_pair rows); waiting = from_entries (filter_map pending_pair rows) }

-- the entry of a name, and the entry of what waits for it
abbrev pub name_entry : Marks → Entry
name_entry m = (m.key, m.value)

abbrev pub pending_entry : Marks → Option Entry
pending_entry m = option_map (λ v. (m.pending_key, v)) m.pending_value

-- the entries of rows, those of names first
abbrev pub marked : List Marks → List Entry
marked ms = map name_entry ms ++ filter_map pending_entry ms

-- the marks of rows
abbrev pub marks_of : List RowData → List Marks
marks_of rows = map (λ r. r.marks) rows

-- the marks of a row are those of its name, its chain and what waits
pub record IsMarked (r : RowData) : Type 0 where
  pub some : 0 < length r.chain
  pub key : r.marks.key ≡ name_digest_of r.name
  pub value : r.marks.value ≡ value_of r.chain
  pub pending_key : r.marks.pending_key ≡ strings.pending_key r.name
  pub pending_value : r.marks.pending_value ≡ option_map pending_value r.waiting

-- rows whose names ascend, each marked
pub record AreRows (rows : List RowData) : Type 0 where
  pub rise : IsTrue (is_sorted key_cmp (map chain_pair rows))
  pub marked : All IsMarked rows

-- how many rows have a change that waits
abbrev pub waiting_in : List RowData → ℕ
waiting_in rows = length (filter_map pending_pair rows)

-- what is kept of a table: its rows, their entries in the tree, how many certificates and waiting changes there
-- are, and how many of these wait
pub record IsKept (rows : List RowData) (trie : Entries) (kept waiting : ℕ) : Type 0 where
  pub are : AreRows rows
  pub tree : trie ≡ from_entries (marked (marks_of rows))
  pub count : kept ≡ size (table_of rows)
  pub most : kept ≤ most_kept
  pub wait : waiting ≡ waiting_in rows

-- what is told of a change that waits, as the table has it
abbrev pub pending_told : Bor Change × ℕ → Pending
pending_told told = record { change = told.0.now; since = told.1 }

-- ---- what a row says at an epoch

-- whether what waits in a row is ripe
abbrev pub is_ripe_row : ℕ → RowData → Bool
is_ripe_row epoch r = is_ripe_behind epoch (newest r.chain) r.waiting

-- the newest certificate of a name at an epoch, if the name has a row
abbrev pub newest_at : ℕ → Option RowData → Option Certificate
newest_at epoch None = None
newest_at epoch (Some r) = if is_ripe_row epoch r then option_map (λ p. p.change.cert) r.waiting else newest r.chain

-- what waits for it then
abbrev pub pending_at : ℕ → Option RowData → Option Pending
pending_at epoch None = None
pending_at epoch (Some r) = if is_ripe_row epoch r then None else r.waiting

-- ---- the row of a name

-- no row has the name
abbrev pub IsMissing : List ℕ → List Named → Type 0
IsMissing name es = All (λ e. eq_by_cmp key_cmp name e.0.items ≡ false) es

-- the marks of the rows with a lesser name, then these, and then those of the rows with a greater one
abbrev pub with_marks : List ℕ → Marks → List Named → List Marks
with_marks name m es = marks_of (lesser name (data_in es)) ++ m ∷ marks_of (greater name (data_in es))

-- ---- rows as they are listed

-- a name with its marks
abbrev pub listed : RowData → List ℕ × Marks
listed r = (r.name, r.marks)

abbrev pub listed_in : List Listed → List (List ℕ × Marks)
listed_in ls = map (λ l. (l.name.items, l.marks)) ls

-- the marks of what is listed
abbrev pub marks_listed : List Listed → List Marks
marks_listed ls = map (λ l. l.marks) ls

-- ---- the tree

-- a map with this at a key: a value, or nothing
abbrev pub with_entry : Entries → List ℕ → Option (List ℕ) → Entries
with_entry m key (Some value) = insert m key value
with_entry m key None = remove m key

-- what is found at the front of a list, if something stands there
abbrev pub hit : {V : Type 0} → List ℕ → Option (List ℕ × V) → Option V
hit q None = None
hit q (Some e) = if eq_by_cmp key_cmp q e.0 then Some e.1 else None

-- no marks of these have an entry under the key
pub record IsAlone (key : List ℕ) (front back : List Marks) : Type 0 where
  pub names_before : find key_cmp key (map name_entry front) ≡ None
  pub names_behind : find key_cmp key (map name_entry back) ≡ None
  pub pendings_before : find key_cmp key (filter_map pending_entry front) ≡ None
  pub pendings_behind : find key_cmp key (filter_map pending_entry back) ≡ None

-- no two of the entries that marks have are one in the map, if this is told
abbrev pub HaveOwnKeys : Bool → List Marks → Entries → Type 0
HaveOwnKeys apart ms trie = apart ≡ true → length (marked ms) ≤ len trie

-- ---- a row that changes

-- the row with these changes and this that waits, and other marks
abbrev pub with_row : RowData → List Change → Option Pending → Marks → RowData
with_row r chain waiting marks = record { name = r.name; chain = chain; waiting = waiting; marks = marks }

-- the change waits since this epoch, or nothing does where none is told
abbrev pub waits : Change → Option ℕ → Option Pending
waits change since = option_map (λ epoch. record { change = change; since = epoch }) since

-- the row at a place has these changes and this that waits, all other rows are as before, and the tree is theirs
pub record IsChanged (old new : List RowData) (trie : Entries) (i : ℕ) (r : RowData) (chain : List Change) (waiting : Option Pending) : Type 0 where
  pub marks : Marks
  pub rows : new ≡ take i old ++ with_row r chain waiting marks ∷ drop (i + 1) old
  pub is_marked : IsMarked (with_row r chain waiting marks)
  pub tree : trie ≡ from_entries (marked (marks_of new))

-- the same of a map: the places are those of its order, and the tree is that of the order of names
pub record IsChangedIn (old new : List Named) (trie : Entries) (i : ℕ) (r : RowData) (chain : List Change) (waiting : Option Pending) : Type 0 where
  pub marks : Marks
  pub rows : rows_in new ≡ take i (rows_in old) ++ with_row r chain waiting marks ∷ drop (i + 1) (rows_in old)
  pub is_marked : IsMarked (with_row r chain waiting marks)
  pub tree : trie ≡ from_entries (marked (marks_of (data_in new)))

-- ---- a row that comes in

-- the row of a name whose first change this is
abbrev pub first_row : List ℕ → Change → Marks → RowData
first_row name change marks = record { name = name; chain = change ∷ []; waiting = None; marks = marks }

-- behind the rows of a map stands now one that begins with this change, all others are as before, and the tree is theirs
pub record IsCome (old new : List Named) (trie : Entries) (change : Change) : Type 0 where
  pub marks : Marks
  pub rows : rows_in new ≡ rows_in old ++ first_row change.cert.name change marks ∷ []
  pub is_marked : IsMarked (first_row change.cert.name change marks)
  pub tree : trie ≡ from_entries (marked (marks_of (data_in new)))

-- ---- what ripens

-- whether what waits in some row is ripe
abbrev pub any_ripe : ℕ → List RowData → Bool
any_ripe epoch rows = list_any (is_ripe_row epoch) rows

-- up to a place of a map nothing is ripe any longer, and its rows ripen to the table to which the first ones do
pub record IsRipeUpTo (epoch : ℕ) (first : List RowData) (es : List Named) (trie : Entries) (waiting i : ℕ) : Type 0 where
  pub are : AreRows (data_in es)
  pub tree : trie ≡ from_entries (marked (marks_of (data_in es)))
  pub count : length es ≡ length first
  pub wait : waiting ≡ waiting_in (data_in es)
  pub done : any_ripe epoch (take i (rows_in es)) ≡ false
  pub same : ripen (table_of (data_in es)) epoch ≡ ripen (table_of first) epoch
