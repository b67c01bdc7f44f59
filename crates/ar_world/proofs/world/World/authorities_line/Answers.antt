use Rattle.std.proofs.Common.{subst}
use Rattle.ar_founding.specs.Founded.{AreOwn}
use Rattle.ar_world.specs.State.{World}
use Rattle.ar_founding.proofs.FirstParties.{founded-own}
use Rattle.ar_world.proofs.FirstParties.{logs-made}
use Rattle.ar_world.proofs.world.World.authorities_line.Goals as goal

pub people-requires-clause-phase : goal.people-requires-clause-phase
people-requires-clause-phase g c = logs-made _ c.requires

pub people-requires-clause-own : goal.people-requires-clause-own
people-requires-clause-own g c =
    let founded = c.in_ok-founded.founded in
    subst (λ (w : World). AreOwn w.setup founded) c.self.view_is (founded-own c.self.inside.setup c.args.count founded c.in_ok-founded.ensures)
