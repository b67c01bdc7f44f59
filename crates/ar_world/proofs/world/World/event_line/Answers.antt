use Rattle.std.proofs.Common.{sym, ap, subst}
use Rattle.std.specs.Prelude.{Ok}
use Rattle.ar_world.specs.Step.{StepsBySome, event_effect}
use Rattle.ar_world.proofs.Stepping.{deliver-some, flush-some}
use Rattle.ar_world.proofs.world.World.event_line.Goals as goal

pub returns-in-Deliver : goal.returns-in-Deliver
returns-in-Deliver g c =
    deliver-some c.deliver.result c.args.self.now c.deliver.new.self c.args.line.now c.in-Deliver.message c.in-Deliver.party c.in-Deliver.is
    c.deliver.ensures.steps

pub returns-in-Flush : goal.returns-in-Flush
returns-in-Flush g c =
    subst (λ l. StepsBySome (Ok c.new.result) c.args.self.now c.args.self.now (λ says. event_effect says c.args.self.now l)) (sym c.in-Flush.is)
    (flush-some (Ok c.new.result) c.args.self.now (ap Ok c.new.ensures))
