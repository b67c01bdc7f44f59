use Rattle.std.proofs.Common.{sym, ap, ◌∙◌}
use Rattle.std.specs.List.{filter_map}
use Rattle.std.specs.Option.{option_or}
use Rattle.std.specs.FinMap.{find}
use Rattle.hash_tree.specs.Entries.{key_cmp}
use Rattle.domain_table.specs.Rows.{hit, marks_listed, pending_entry}
use Rattle.domain_table.proofs.RowLists.{split_filtered}
use Rattle.domain_table.proofs.tree.pending_at.Goals as goal

pub returns-in-Some : goal.returns-in-Some
returns-in-Some c =
    sym (split_filtered pending_entry (marks_listed c.args.front.now) c.args.marks.now (marks_listed c.args.back.now) c.args.key.now
    ∙ ap (λ o. option_or o (option_or (hit c.args.key.now (pending_entry c.args.marks.now)) (find key_cmp c.args.key.now (filter_map pending_entry (marks_listed c.args.back.now))))) (sym c.pending_value.ensures ∙ c.in-Some.is))

pub returns-in-Some-own_pending : goal.returns-in-Some-own_pending
returns-in-Some-own_pending c =
    sym (split_filtered pending_entry (marks_listed c.args.front.now) c.args.marks.now (marks_listed c.args.back.now) c.args.key.now
    ∙ ap (λ o. option_or o (option_or (hit c.args.key.now (pending_entry c.args.marks.now)) (find key_cmp c.args.key.now (filter_map pending_entry (marks_listed c.args.back.now))))) (sym c.pending_value.ensures ∙ c.in_default.is)
    ∙ ap (λ o. option_or o (find key_cmp c.args.key.now (filter_map pending_entry (marks_listed c.args.back.now)))) (sym c.own_pending.ensures ∙ c.in-Some-own_pending.is))

pub returns : goal.returns
returns c =
    sym (split_filtered pending_entry (marks_listed c.args.front.now) c.args.marks.now (marks_listed c.args.back.now) c.args.key.now
    ∙ ap (λ o. option_or o (option_or (hit c.args.key.now (pending_entry c.args.marks.now)) (find key_cmp c.args.key.now (filter_map pending_entry (marks_listed c.args.back.now))))) (sym c.pending_value.ensures ∙ c.in_default.is)
    ∙ ap (λ o. option_or o (find key_cmp c.args.key.now (filter_map pending_entry (marks_listed c.args.back.now)))) (sym c.own_pending.ensures ∙ c.in_default-own_pending.is)
    ∙ sym c.pending_value-2.ensures)
