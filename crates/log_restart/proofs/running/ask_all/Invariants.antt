use Rattle.std.proofs.Common.{take}
use Rattle.log_restart.specs.Inputs.{texts_of}
use Rattle.log_restart.specs.Running.{Took}
use Rattle.log_restart.proofs.running.ask_all.Given as goal

abbrev pub invariant-loop-input : goal.invariant-loop-input
invariant-loop-input g l = Took g.K.Disk.fuel g.K.Disk.faults l.initial.kept l.kept (texts_of (take l.input-index l.inputs))
