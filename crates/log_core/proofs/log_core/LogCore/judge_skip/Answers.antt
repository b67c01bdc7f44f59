use Rattle.std.proofs.Common.{◌∙◌}
use Rattle.log_core.proofs.Statuses.{are-plain}
use Rattle.log_core.proofs.log_core.LogCore.judge_skip.Goals as goal

pub none_can_win-requires : goal.none_can_win-requires
none_can_win-requires c =
    are-plain c.directory-directory.result.now c.args.epoch c.statuses.inside.list.items c.as_slice-list.result.now c.as_slice.result.now c.statuses.invariant
    c.as_slice-list.ensures.value c.in_ok-check_statuses.ensures (c.as_slice.ensures.value ∙ c.in_ok-plain.ensures)
