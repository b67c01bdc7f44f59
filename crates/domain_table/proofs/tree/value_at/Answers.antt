use Rattle.std.proofs.Common.{◌++◌, ◌∷◌, sym, ap, ◌∙◌, map}
use Rattle.std.specs.List.{filter_map}
use Rattle.std.specs.Option.{option_or}
use Rattle.std.specs.FinMap.{find}
use Rattle.hash_tree.specs.Entries.{key_cmp}
use Rattle.domain_table.specs.Rows.{marks_listed, name_entry, pending_entry}
use Rattle.domain_table.proofs.Keyed.{find_both}
use Rattle.domain_table.proofs.tree.value_at.Goals as goal

pub returns-in-Some : goal.returns-in-Some
returns-in-Some c =
    sym (find_both (map name_entry ((marks_listed c.args.front.now) ++ c.args.marks.now ∷ (marks_listed c.args.back.now))) (filter_map pending_entry ((marks_listed c.args.front.now) ++ c.args.marks.now ∷ (marks_listed c.args.back.now))) c.args.key.now
    ∙ ap (λ o. option_or o (find key_cmp c.args.key.now (filter_map pending_entry ((marks_listed c.args.front.now) ++ c.args.marks.now ∷ (marks_listed c.args.back.now))))) (sym c.name_at.ensures ∙ c.in-Some.is))

pub returns : goal.returns
returns c =
    sym (find_both (map name_entry ((marks_listed c.args.front.now) ++ c.args.marks.now ∷ (marks_listed c.args.back.now))) (filter_map pending_entry ((marks_listed c.args.front.now) ++ c.args.marks.now ∷ (marks_listed c.args.back.now))) c.args.key.now
    ∙ ap (λ o. option_or o (find key_cmp c.args.key.now (filter_map pending_entry ((marks_listed c.args.front.now) ++ c.args.marks.now ∷ (marks_listed c.args.back.now))))) (sym c.name_at.ensures ∙ c.in_default.is)
    ∙ sym c.pending_at.ensures)
