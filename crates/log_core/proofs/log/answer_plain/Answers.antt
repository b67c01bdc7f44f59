use Rattle.log_core.specs.Inputs.{input_of}
use Rattle.log_core.specs.State.{most_sent}
use Rattle.log_core.proofs.Few.{row-few}
use Rattle.log_core.proofs.Keyed.{plain-signs}
use Rattle.log_core.proofs.log.answer_plain.Goals as goal
use Rattle.ar_message.proofs.Filled.{filled-few}

pub fill-requires : goal.fill-requires
fill-requires c =
    (plain-signs c.log.inside.core (input_of c.args.input.now) c.log.inside.ring.keys c.step.new.self c.in_ok-unsigned.unsigned c.told.ensures c.input_told.ensures
    c.requires c.log.invariant c.in_ok-unsigned.ensures.row).fills

pub invariant_of-log-2 : goal.invariant_of-log-2
invariant_of-log-2 c =
    (plain-signs c.log.inside.core (input_of c.args.input.now) c.log.inside.ring.keys c.step.new.self c.in_ok-unsigned.unsigned c.told.ensures c.input_told.ensures
    c.requires c.log.invariant c.in_ok-unsigned.ensures.row).stays

pub returns-clause-few : goal.returns-clause-few
returns-clause-few c =
    filled-few most_sent c.log.inside.ring.keys c.in_ok-unsigned.unsigned c.fill.result
    (row-few c.log.inside.core (input_of c.args.input.now) (record { unsigned = c.in_ok-unsigned.unsigned; after = c.step.new.self }) c.in_ok-unsigned.ensures.row)
    c.fill.ensures
