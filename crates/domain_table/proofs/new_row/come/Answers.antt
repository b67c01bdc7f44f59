use Rattle.std.proofs.Common.{ap, ◌∙◌}
use Rattle.std.specs.FinMap.{from_entries}
use Rattle.domain_table.specs.Rows.{marked, with_marks}
use Rattle.domain_table.proofs.Coming.{come_in}
use Rattle.domain_table.proofs.new_row.come.Goals as goal

pub returns-clause-ok : goal.returns-clause-ok
returns-clause-ok c =
    come_in c.args.rows.now.entries c.make_place.new.rows.entries c.set_in.new.rows.entries c.retrie_come.new.trie c.in-Ok.parts.0 c.row_with.result c.args.change c.first_marks-marks.result
    c.requires.are.rise c.requires.absent c.make_place.ensures.same c.set_in.ensures (c.row_with.ensures c.in-Ok.parts.0) c.in-Ok.ensures.name
    c.first_marks-marks.ensures.key c.first_marks-marks.ensures.value c.first_marks-marks.ensures.pending_key c.first_marks-marks.ensures.pending_value
    (c.in_default-retrie_come.ensures.ok ∙ ap (λ n. from_entries (marked (with_marks n c.first_marks-marks.result c.make_place.new.rows.entries))) c.as_slice.ensures.value)
