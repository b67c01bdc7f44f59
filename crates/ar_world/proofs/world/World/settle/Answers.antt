use Rattle.ar_world.proofs.Seats.{kept_as_many}
use Rattle.ar_world.proofs.Settling.{settled_so, unsettled}
use Rattle.ar_world.proofs.world.World.settle.Goals as goal

pub invariant_of-self : goal.invariant_of-self
invariant_of-self g c = kept_as_many _ _ _ _ _ _ _ c.settle.ensures.len c.self.invariant

pub returns : goal.returns
returns g c = record {
  ok = settled_so _ _ c.args.message c.args.who c.args.reply c.settle.result _ _ c.self.view_is c.settle.ensures.pool c.settle.ensures.logs;
  err = unsettled _ _ c.settle.result _ _ c.self.view_is c.settle.ensures.err;
}
