-- What the log was asked is what its run has.
use Rattle.std.proofs.Common.{◌∙◌, ap, map}
use Rattle.log_core.specs.Inputs.{input_of}
use Rattle.run_restart.proofs.Endings.{log-takes, log-told}
use Rattle.run_restart.proofs.restarting.restart_log.Goals as goal

pub restart_by-requires-clause-replays : goal.restart_by-requires-clause-replays
restart_by-requires-clause-replays g c =
    log-takes c.args.asked c.args.world.now c.args.taken.now c.in_ok-ring.ring.keys c.deref.result.now c.deref-2.result.now c.requires c.in_ok-ring.ensures
    (λ newest last. c.deref.ensures.value ∙ c.in_ok-all.ensures newest last) (ap (map input_of) c.deref-2.ensures.value ∙ c.in_ok-inputs.ensures)

pub returns : goal.returns
returns g c =
    log-told c.args.asked c.args.world.now c.args.taken.now c.in_ok-ring.ring.keys c.deref.result.now c.deref-2.result.now c.requires c.in_ok-ring.ensures
    (λ newest last. c.deref.ensures.value ∙ c.in_ok-all.ensures newest last) (ap (map input_of) c.deref-2.ensures.value ∙ c.in_ok-inputs.ensures)
    c.args.behind c.restart_by.result c.restart_by.ensures
