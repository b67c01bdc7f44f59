-- The inputs so far are those of what was asked so far.
use Rattle.std.proofs.Common.{◌≡◌, map, take}
use Rattle.log_core.specs.Inputs.{input_of}
use Rattle.run_restart.specs.Asking.{input_in}
use Rattle.run_restart.proofs.asking.inputs_of.Given as goal

abbrev pub invariant-loop-one : goal.invariant-loop-one
invariant-loop-one g l = map input_of l.inputs.items ≡ map (input_in l.world.pool) (take l.one-index l.asked)
