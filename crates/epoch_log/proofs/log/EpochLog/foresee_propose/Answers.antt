use Rattle.std.proofs.Common.{◌≡◌, subst}
use Rattle.std.specs.Prelude.{IfOk}
use Rattle.epoch_log.specs.Calls.{after_propose}
use Rattle.epoch_log.specs.Foreseeing.{IsForeseen}
use Rattle.epoch_log.specs.Log.{LogParts, parts_of}
use Rattle.epoch_log.proofs.log.EpochLog.foresee_propose.Goals as goal

pub returns : goal.returns
returns c =
    let same : parts_of c.self.inside.parts ≡ c.args.self.now = cc in
    subst (λ (l : LogParts). IfOk c.foresee_propose.result (IsForeseen (after_propose l.state c.args.value.now c.args.changes.now))) same c.foresee_propose.ensures
