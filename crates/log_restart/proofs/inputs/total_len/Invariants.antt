use Rattle.std.proofs.Common.{◌≡◌, ◌≤◌, take}
use Rattle.log_restart.specs.Inputs.{most_input_bytes, texts_of, total_len}
use Rattle.log_restart.proofs.inputs.total_len.Given as goal

abbrev pub invariant-loop-input : goal.invariant-loop-input
invariant-loop-input l = record { is : l.total ≡ total_len (texts_of (take l.input-index l.inputs)); few : l.total ≤ most_input_bytes }
