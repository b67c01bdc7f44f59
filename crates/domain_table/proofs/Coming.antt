-- A row that comes in, from what its parts say.
use Rattle.std.proofs.Common.{◌≡◌, ℕ, List, [], ◌∷◌, ◌++◌, map, ap, sym, ◌∙◌, arith, None, Vec, Global}
use Rattle.std.specs.Prelude.{IsTrue}
use Rattle.std.specs.FinMap.{from_entries, is_sorted}
use Rattle.hash_tree.specs.Entries.{Entries, key_cmp}
use Rattle.hash_tree.specs.Strings as strings
use Rattle.ar_cert.specs.Certificate.{certificate_value}
use Rattle.ar_cert.specs.Changes.{Change}
use Rattle.ar_names.specs.Names.{name_digest_of}
use Rattle.domain_table.specs.declared.row.Marks.{Marks}
use Rattle.domain_table.specs.declared.row.Row.{Row}
use Rattle.domain_table.specs.Rows.{IsCome, IsMissing, Named, RowData, by_name, chain_pair, data_in, data_of, first_row, greater, lesser, marked, marks_of, rows_in, with_marks}
use Rattle.domain_table.proofs.ByName.{missing_rows, named_come}
use Rattle.domain_table.proofs.Places.{marks_with, rows_behind}

pub come_in : (old mid new : List Named) (trie : Entries) (name : Vec ℕ Global) (row : Row) (change : Change) (marks : Marks) → IsTrue (is_sorted key_cmp (map chain_pair (data_in old)))
    → IsMissing change.cert.name old → mid ≡ old → new ≡ mid ++ (name, row) ∷ [] → data_of (name, row) ≡ first_row name.items change marks → name.items ≡ change.cert.name
    → marks.key ≡ name_digest_of change.cert.name → marks.value ≡ certificate_value change.cert → marks.pending_key ≡ strings.pending_key change.cert.name → marks.pending_value ≡ None
    → trie ≡ from_entries (marked (with_marks name.items marks mid)) → IsCome old new trie change
come_in old mid new trie name row change marks rise missing same is says names key value pending_key pending_value tree =
    let r : RowData = first_row change.cert.name change marks in
    let rows : rows_in new ≡ rows_in old ++ r ∷ [] =
    ap rows_in (is ∙ ap (λ es. es ++ (name, row) ∷ []) same) ∙ rows_behind old (name, row)
    ∙ ap (λ x. rows_in old ++ x ∷ []) (says ∙ ap (λ n. first_row n change marks) names) in
    let come = named_come (rows_in old) r rise (missing_rows old change.cert.name missing) in
    record {
      marks = marks;
      rows = rows;
      is_marked = record { some = omega arith; key = key; value = value; pending_key = pending_key; pending_value = pending_value };
      tree = tree
          ∙ (λ k. from_entries (marked (with_marks (names k) marks (same k))))
          ∙ ap (λ ms. from_entries (marked ms)) (sym (marks_with (lesser r.name (data_in old)) r (greater r.name (data_in old))) ∙ ap marks_of (sym (ap by_name rows ∙ come.1)));
    }
