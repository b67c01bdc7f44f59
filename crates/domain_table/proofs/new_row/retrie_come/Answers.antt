use Rattle.std.proofs.Common.{◌≡◌, ◌++◌, ◌∷◌, [], ℕ, List, refl, sym, ap, ◌∙◌, true, not, Bool, is_some, Option, None, Some}
use Rattle.std.specs.FinMap.{find, from_entries}
use Rattle.std.proofs.lemmas.List.{map-append}
use Rattle.hash_tree.specs.Entries.{Entries, key_cmp}
use Rattle.domain_table.specs.Rows.{AreRows, IsMissing, Named, data_in, greater, lesser, marked, marks_of, rows_in, with_entry}
use Rattle.domain_table.specs.declared.row.Marks.{Marks}
use Rattle.domain_table.proofs.ByName.{named_come, missing_rows}
use Rattle.domain_table.proofs.RowLists.{one_refreshed}
use Rattle.domain_table.proofs.Alone.{come_alone}
use Rattle.domain_table.proofs.Retrie.{alike_came}
use Rattle.domain_table.proofs.new_row.retrie_come.Goals as goal

none_got : (o : Option (List ℕ)) (none : Bool) → is_some o ≡ not none → none ≡ true → o ≡ None
none_got None none e is = refl
none_got (Some x) none e is = let some : true ≡ not true = e ∙ ap not is in absurd (cc)

-- the rows are those with a lesser name and those with a greater one
apart : (name : List ℕ) (m : Marks) (es : List Named) → AreRows (data_in es) → IsMissing name es → marks_of (data_in es) ≡ marks_of (lesser name (data_in es)) ++ marks_of (greater name (data_in es))
apart name m es are missing =
    ap marks_of (named_come (rows_in es) (record { name = name; chain = []; waiting = None; marks = m }) are.rise (missing_rows es name missing)).0
    ∙ map-append (λ r. r.marks) (lesser name (data_in es)) (greater name (data_in es))

parted : (name : List ℕ) (m : Marks) (es : List Named) (trie : Entries) → AreRows (data_in es) → IsMissing name es → trie ≡ from_entries (marked (marks_of (data_in es)))
    → trie ≡ from_entries (marked (marks_of (lesser name (data_in es)) ++ marks_of (greater name (data_in es))))
parted name m es trie are missing tree = tree ∙ ap (λ ms. from_entries (marked ms)) (apart name m es are missing)

pub name_now-requires-clause-others : goal.name_now-requires-clause-others
name_now-requires-clause-others c = λ is.
    let rows = data_in c.args.rows.now.entries in
    come_alone c.args.marks.now.key (marks_of (lesser c.args.name.now rows)) (marks_of (greater c.args.name.now rows)) c.args.trie.now
    (parted c.args.name.now c.args.marks.now c.args.rows.now.entries c.args.trie.now c.requires.are c.requires.absent c.requires.tree)
    (sym c.get.ensures ∙ none_got c.get.result c.is_none-alone.result c.is_none-alone.ensures is)

pub returns-clause-ok : goal.returns-clause-ok
returns-clause-ok c =
    let front = marks_of (lesser c.args.name.now (data_in c.args.rows.now.entries)) in
    let back = marks_of (greater c.args.name.now (data_in c.args.rows.now.entries)) in
    c.in_ok-refresh.ensures.ok
    ∙ ap (with_entry c.args.trie.now c.args.marks.now.key) c.in_ok-value.ensures
    ∙ ap (λ t. with_entry t c.args.marks.now.key (find key_cmp c.args.marks.now.key (marked (front ++ c.args.marks.now ∷ back))))
    (parted c.args.name.now c.args.marks.now c.args.rows.now.entries c.args.trie.now c.requires.are c.requires.absent c.requires.tree)
    ∙ one_refreshed (marked (front ++ back)) (marked (front ++ c.args.marks.now ∷ back)) c.args.marks.now.key (alike_came front c.args.marks.now back c.requires.free)
