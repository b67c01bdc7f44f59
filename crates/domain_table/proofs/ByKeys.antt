-- A map that is filled from the last entry to the first has the entries of the finite map that they make.
use Rattle.std.proofs.Common.{◌≡◌, ℕ, List, [], ◌∷◌, map, length, drop, refl, sym, ap, ◌∙◌, arith}
use Rattle.std.proofs.lemmas.List.{drop_all}
use Rattle.std.specs.List.{filter_map}
use Rattle.std.specs.declared.cmp.Ordering.{Ordering}
use Rattle.std.specs.declared.cmp.Ordering.TheVariants.{Less, Equal, Greater}
use Rattle.std.specs.Ordering.{match_ordering}
use Rattle.std.specs.FinMap.{entries, entries-insert}
use Rattle.std.specs.FinMap.Entries.{by_order, put}
use Rattle.std.specs.BTreeMap.{insert_entry}
use Rattle.hash_tree.specs.Entries.{Entry, entries_of, key_cmp}
use Rattle.hash_tree.proofs.Maps.{total, entries-entries_of}
use Rattle.domain_table.specs.declared.row.Listed.{Listed}
use Rattle.domain_table.specs.Rows.{marks_listed, pending_entry}

insert-put : (es : List Entry) (key value : List ℕ) → insert_entry key_cmp es key value ≡ put key_cmp key value es
insert-put [] key value = refl
insert-put (e ∷ es) key value = at (key_cmp key e.0) (insert-put es key value) where
  at : (o : Ordering) → insert_entry key_cmp es key value ≡ put key_cmp key value es
      → match_ordering o ((key, value) ∷ e ∷ es) ((e.0, value) ∷ es) (e ∷ insert_entry key_cmp es key value)
      ≡ by_order o ((key, value) ∷ e ∷ es) ((e.0, value) ∷ es) (e ∷ put key_cmp key value es)
  at Less rest = refl
  at Equal rest = refl
  at Greater rest = ap (λ xs. e ∷ xs) rest

pub first_put : (list es : List Entry) (key value : List ℕ) → list ≡ entries (entries_of es) → insert_entry key_cmp list key value ≡ entries (entries_of ((key, value) ∷ es))
first_put list es key value is =
    ap (λ xs. insert_entry key_cmp xs key value) is ∙ insert-put (entries (entries_of es)) key value ∙ sym (entries-insert total (entries_of es) key value)

-- behind the last row nothing is listed
pub none_behind : (rows : List Listed) → entries (entries_of (filter_map pending_entry (marks_listed (drop (length rows) rows)))) ≡ []
none_behind rows = ap (λ rs. entries (entries_of (filter_map pending_entry (marks_listed rs)))) (drop_all (length rows) rows (omega arith)) ∙ entries-entries_of [] refl
