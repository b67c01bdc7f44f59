-- Where nothing is due of those in front, what is due behind them is due next.
use Rattle.std.proofs.Common.{◌∙◌, ap}
use Rattle.ar_world.specs.Delivering.{next_due_behind}
use Rattle.ar_world.proofs.Searched.{searched}
use Rattle.script_play.specs.Playing.{Stand}
use Rattle.script_play.proofs.stage.Stage.next_due_behind.Goals as goal

pub returns-clause-due : goal.returns-clause-due
returns-clause-due g c =
    c.next_due_behind.ensures.due ∙ ap (λ (s : Stand). next_due_behind s.world c.args.front) c.self.view_is ∙ searched c.args.self.now.world c.args.front c.requires
