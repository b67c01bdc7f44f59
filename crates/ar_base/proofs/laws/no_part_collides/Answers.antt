use Rattle.ar_base.proofs.Apart.{none_collide-part}
use Rattle.ar_base.proofs.laws.no_part_collides.Goals as goal

pub returns : goal.returns
returns c = none_collide-part
