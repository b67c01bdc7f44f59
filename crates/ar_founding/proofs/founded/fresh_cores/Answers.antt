use Rattle.ar_founding.proofs.FirstParties.{grown}
use Rattle.ar_founding.proofs.founded.fresh_cores.Goals as goal

pub loop-number-preserved : goal.loop-number-preserved
loop-number-preserved c =
    grown _ c.loop-number.number c.loop-number.cores.items c.push.new.self.items c.in_ok-fresh_core.field-0 c.loop-number.invariant c.in_ok-fresh_core.ensures c.in_ok-push.ensures.items
