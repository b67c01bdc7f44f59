use Rattle.std.specs.Prelude.{Ok}
use Rattle.ar_world.proofs.Phases.{still-peopled}
use Rattle.ar_world.proofs.world.World.run_line.Goals as goal

pub run-requires : goal.run-requires
run-requires g c =
    still-peopled (Ok c.in_ok-said.said) c.args.self.now c.event_line.new.self c.args.line.now c.in_ok-said.ensures c.requires
