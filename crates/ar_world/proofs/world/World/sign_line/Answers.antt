use Rattle.ar_world.proofs.Forgers.{sign_seen}
use Rattle.ar_world.proofs.world.World.sign_line.Goals as goal

pub returns : goal.returns
returns g c =
    sign_seen c.sign_by_forger.result _ c.args.self.now c.args.party c.in_ok-place.place c.args.pieces.now c.deref.result.now c.in_ok-place.text.items c.index_mut.result.now c.sign_by_forger.new.forger c.sign_by_forger.new.pool.messages
    c.self.view_is c.deref.ensures.value c.in_ok-place.ensures.place c.index_mut.ensures.value c.in_ok-place.ensures.text c.sign_by_forger.ensures.left c.sign_by_forger.ensures.none c.sign_by_forger.ensures.err
