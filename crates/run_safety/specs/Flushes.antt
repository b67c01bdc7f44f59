-- What is promised of a `flush`.
use Rattle.std.specs.Prelude.{◌≡◌, None}
use Rattle.ar_world.specs.Delivering.{next_due}
use Rattle.ar_world.specs.Run.{Progress}

-- nothing is due behind deliveries, unless one of them was refused
abbrev pub LeavesNothingDue : Progress → Type 0
LeavesNothingDue p = p.refused ≡ None → next_due p.world ≡ None
