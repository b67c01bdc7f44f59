use Rattle.std.proofs.Common.{◌≡◌, ap, ◌∙◌, ◌++◌, ◌∷◌, map}
use Rattle.std.specs.Ordering.{is_lt}
use Rattle.std.specs.FinMap.{find}
use Rattle.hash_tree.specs.Entries.{key_cmp}
use Rattle.domain_table.specs.Rows.{data_in, listed, listed_in, marked}
use Rattle.domain_table.proofs.ListedRows.{list_sorted, marks_part}
use Rattle.domain_table.proofs.tree.value_beside.Goals as goal

pub split_around-requires : goal.split_around-requires
split_around-requires c = list_sorted c.deref.result.now (data_in c.args.rows.now.entries) (ap listed_in c.deref.ensures.value ∙ c.in_ok-list.ensures) c.requires.rise

pub returns : goal.returns
returns c =
    let list = c.deref.result.now in
    let same : listed_in list ≡ map listed (data_in c.args.rows.now.entries) = ap listed_in c.deref.ensures.value ∙ c.in_ok-list.ensures in
    let front = marks_part (λ k. is_lt (key_cmp k c.args.name.now)) c.split_around.result.0.now list (data_in c.args.rows.now.entries) c.split_around.ensures.front same in
    let back = marks_part (λ k. is_lt (key_cmp c.args.name.now k)) c.split_around.result.1.now list (data_in c.args.rows.now.entries) c.split_around.ensures.back same in
    c.value_at.ensures ∙ (λ i. find key_cmp c.args.key.now (marked (front i ++ c.args.marks.now ∷ back i)))
