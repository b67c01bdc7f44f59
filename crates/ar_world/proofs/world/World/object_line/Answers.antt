use Rattle.std.proofs.Common.{◌≡◌, ◌<◌, length, Some, Ok, sym, subst}
use Rattle.std.specs.Prelude.{position}
use Rattle.ar_nodes.specs.Acting.{ActsBy, owner_objected}
use Rattle.ar_nodes.specs.Finding.{is_owner}
use Rattle.ar_world.specs.Finding.{room}
use Rattle.ar_world.specs.State.{Drafted, World}
use Rattle.ar_world.proofs.Answered.{objected_there}
use Rattle.ar_world.proofs.world.World.object_line.Goals as goal

pub returns : goal.returns
returns g c =
    let i = c.in_ok-place.ensures in
    let old = sym c.self.view_is in
    let here = subst (λ (w : World). position (is_owner c.args.owner) w.owners ≡ Some c.in_ok-place.place) old i.place in
    let within = subst (λ (w : World). c.in_ok-place.found < length w.drafts) old i.found in
    let free = subst (λ (w : World). room w ≡ Ok tt) old i.room in
    let me = c.index_mut-owner_there.result.now in
    let acts = subst (λ (d : Drafted). ActsBy c.objected.result me c.objected.new.owner c.self.inside.pool.messages c.objected.new.pool.messages
    (owner_objected c.self.inside.pool.messages c.args.owner c.args.draft d.cert me)) c.behind-self.view_is c.objected.ensures in
    rw (← c.self.view_is) (objected_there _ _ _ _ _ _ me _ c.index.result.now _ here c.index_mut-owner_there.ensures.value i.draft within c.index.ensures free acts)
