-- A line that may not come now is refused by the world, and so by the stage.
use Rattle.std.proofs.Common.{◌∙◌, ap}
use Rattle.ar_world.specs.ar_nodes.declared.fault.WorldFault.TheVariants.{Order}
use Rattle.ar_world.specs.Step.{comes_now}
use Rattle.script_play.specs.Playing.{Stand}
use Rattle.script_play.proofs.stage.Stage.take_alone.Goals as goal

pub returns-clause-order : goal.returns-clause-order
returns-clause-order g c late =
    c.tell_made.ensures.refused Order (c.step-made.ensures.order (ap (λ (s : Stand). comes_now s.world c.args.line.now) c.self.view_is ∙ late))
