use Rattle.ar_world.proofs.Searched.{due_behind}
use Rattle.ar_world.proofs.world.World.next_due_behind.Goals as goal

pub returns-clause-behind : goal.returns-clause-behind
returns-clause-behind g c = due_behind c.args.self.now c.args.front _ c.due_in.result c.due_in.ensures
