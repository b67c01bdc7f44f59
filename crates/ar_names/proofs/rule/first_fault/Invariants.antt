use Rattle.ar_names.specs.Names.{StandBefore, NoneWrongBefore}
use Rattle.ar_names.proofs.rule.first_fault.Given as goal

abbrev pub invariant-loop-place : goal.invariant-loop-place
invariant-loop-place l = StandBefore l.text l.place l.label × NoneWrongBefore l.text l.place
