use Rattle.std.proofs.Common.{refl, sym}
use Rattle.log_core.proofs.Skips.{none-can, one-could}
use Rattle.log_core.proofs.skipping.none_can_win.Goals as goal

pub returns-in-Ok : goal.returns-in-Ok
returns-in-Ok c =
    sym (none-can c.args.directory.now c.args.statuses.now c.logs.result c.quorum.result c.logs.ensures.value c.quorum.ensures.value (c.in-Ok.ensures.ok.0 refl))

pub returns-in-Err : goal.returns-in-Err
returns-in-Err c =
    sym (one-could c.args.directory.now c.args.statuses.now c.logs.result c.quorum.result (c.in-Err.root, c.in-Err.count) c.logs.ensures.value c.quorum.ensures.value
    (λ excludes. let bad = c.in-Err.ensures.ok.1 excludes in absurd cc) c.in-Err.ensures.err)
