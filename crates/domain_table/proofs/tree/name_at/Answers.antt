use Rattle.std.proofs.Common.{sym, ap, ◌∙◌, map, cond, Some}
use Rattle.std.specs.Option.{option_or}
use Rattle.std.specs.Ordering.{eq_by_cmp}
use Rattle.std.specs.FinMap.{find}
use Rattle.hash_tree.specs.Entries.{key_cmp}
use Rattle.domain_table.specs.Rows.{marks_listed, name_entry}
use Rattle.domain_table.proofs.RowLists.{split_map}
use Rattle.domain_table.proofs.tree.name_at.Goals as goal

pub returns-in-Some : goal.returns-in-Some
returns-in-Some c =
    sym (split_map name_entry (marks_listed c.args.front.now) c.args.marks.now (marks_listed c.args.back.now) c.args.key.now
    ∙ ap (λ o. option_or o (cond (eq_by_cmp key_cmp c.args.key.now c.args.marks.now.key) (Some c.args.marks.now.value) (find key_cmp c.args.key.now (map name_entry (marks_listed c.args.back.now))))) (sym c.name_value.ensures ∙ c.in-Some.is))

pub returns-then-is_key : goal.returns-then-is_key
returns-then-is_key c =
    sym (split_map name_entry (marks_listed c.args.front.now) c.args.marks.now (marks_listed c.args.back.now) c.args.key.now
    ∙ ap (λ o. option_or o (cond (eq_by_cmp key_cmp c.args.key.now c.args.marks.now.key) (Some c.args.marks.now.value) (find key_cmp c.args.key.now (map name_entry (marks_listed c.args.back.now))))) (sym c.name_value.ensures ∙ c.in_default.is)
    ∙ ap (λ b. cond b (Some c.args.marks.now.value) (find key_cmp c.args.key.now (map name_entry (marks_listed c.args.back.now)))) (sym c.is_key.ensures ∙ c.if-is_key.true))

pub returns : goal.returns
returns c =
    sym (split_map name_entry (marks_listed c.args.front.now) c.args.marks.now (marks_listed c.args.back.now) c.args.key.now
    ∙ ap (λ o. option_or o (cond (eq_by_cmp key_cmp c.args.key.now c.args.marks.now.key) (Some c.args.marks.now.value) (find key_cmp c.args.key.now (map name_entry (marks_listed c.args.back.now))))) (sym c.name_value.ensures ∙ c.in_default.is)
    ∙ ap (λ b. cond b (Some c.args.marks.now.value) (find key_cmp c.args.key.now (map name_entry (marks_listed c.args.back.now)))) (sym c.is_key.ensures ∙ c.if-is_key.false)
    ∙ sym c.name_value-2.ensures)
