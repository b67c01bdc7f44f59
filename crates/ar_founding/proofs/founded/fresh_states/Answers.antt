use Rattle.ar_founding.proofs.FirstParties.{grown}
use Rattle.ar_founding.proofs.founded.fresh_states.Goals as goal

pub loop-number-preserved : goal.loop-number-preserved
loop-number-preserved c =
    grown _ c.loop-number.number c.loop-number.states.items c.push.new.self.items c.in_ok-fresh_state.field-0 c.loop-number.invariant c.in_ok-fresh_state.ensures c.in_ok-push.ensures.items
