use Rattle.std.proofs.Common.{ap, ◌∙◌}
use Rattle.domain_table.specs.Applying.{with_room}
use Rattle.domain_table.specs.Rows.{data_in}
use Rattle.domain_table.proofs.Taking.{judged_is}
use Rattle.domain_table.proofs.rows.judged.Goals as goal

pub returns : goal.returns
returns c =
    c.with_room.ensures ∙ ap (with_room c.args.kept) c.judge_rows.ensures
    ∙ judged_is (data_in c.args.rows.now.entries) c.args.epoch c.args.kept c.args.change.now c.requires.are.rise c.requires.count
