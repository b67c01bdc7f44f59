-- What a log is asked, as contracts compare it.
use Rattle.log_core.specs.State.{Input, passes, proposes, rolls, takes}
use Rattle.log_core.specs.declared.step.LogInput.{LogInput}
use Rattle.log_core.specs.declared.step.LogInput.TheVariants as inputs

-- an input of the program
abbrev pub input_of : LogInput → Input
input_of (inputs.Take bytes) = takes bytes.now
input_of inputs.Propose = proposes
input_of inputs.Pass = passes
input_of (inputs.Roll key) = rolls key.now
