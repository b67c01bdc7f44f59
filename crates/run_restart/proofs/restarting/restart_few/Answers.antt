-- What is told of the two runs.
use Rattle.run_restart.proofs.Endings.{told-ended}
use Rattle.run_restart.proofs.restarting.restart_few.Goals as goal

pub returns : goal.returns
returns g c = λ last replays.
    told-ended c.args.asked c.args.inputs.now last.core.log.past.signed c.in_ok-told.told c.in_ok-told.disks c.tell.result
    (c.in_ok-told.ensures.told last replays) c.in_ok-told.ensures.disks c.tell.ensures.answer c.tell.ensures.disks
