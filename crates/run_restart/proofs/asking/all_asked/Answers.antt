-- One thing more.
use Rattle.script_play.specs.ar_nodes.declared.event.LogEvent.TheVariants as events
use Rattle.run_restart.proofs.Inputs.{asked-step}
use Rattle.run_restart.proofs.asking.all_asked.Goals as goal

pub loop-event-preserved : goal.loop-event-preserved
loop-event-preserved c =
    asked-step c.args.ring.now.keys c.loop-event.ring.keys c.asked_of.new.ring.keys c.args.events.now c.loop-event.event-index (events.Take 0)
    c.loop-event.asked.items c.push.new.self.items c.in_ok-one.one c.loop-event-test.true c.loop-event.invariant c.in_ok-one.ensures c.in_ok-push.ensures.items
