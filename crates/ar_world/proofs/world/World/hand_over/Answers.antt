use Rattle.std.proofs.Common.{◌≡◌, ◌<◌, length, get_or, Some, sym, subst}
use Rattle.std.specs.Prelude.{position}
use Rattle.ar_nodes.specs.Finding.{is_owner}
use Rattle.ar_world.specs.State.{World}
use Rattle.ar_world.proofs.Answered.{hands_done, hands_refused}
use Rattle.ar_world.proofs.world.World.hand_over.Goals as goal

pub returns-in-Ok : goal.returns-in-Ok
returns-in-Ok g c me found is at held same =
    let old = sym c.self.view_is in
    let mine = subst (λ (w : World). me ≡ get_or w.owners c.args.place me) old is in
    let here = subst (λ (w : World). position (is_owner c.args.number) w.owners ≡ Some c.args.place) old at in
    let within = subst (λ (w : World). c.args.place < length w.owners) old c.requires in
    rw (← c.self.view_is) (hands_done _ _ _ _ _ me c.index_mut.result.now _ _ found _ _ _ _ here within mine c.index_mut.ensures.value held same c.in-Ok.ensures.answer c.attach.ensures c.party-owner.ensures c.took.ensures)

pub returns-in-Err : goal.returns-in-Err
returns-in-Err g c me found is at held same =
    let old = sym c.self.view_is in
    let mine = subst (λ (w : World). me ≡ get_or w.owners c.args.place me) old is in
    let within = subst (λ (w : World). c.args.place < length w.owners) old c.requires in
    let answer = c.in-Err.ensures.answer in
    rw (← c.self.view_is) (hands_refused _ _ _ _ _ me c.index_mut.result.now _ found _ _ _ within mine c.index_mut.ensures.value answer.0 answer.1 c.party-owner.ensures c.say_refused.ensures.ok c.say_refused.ensures.err)
