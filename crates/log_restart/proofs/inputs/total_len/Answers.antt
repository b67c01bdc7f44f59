use Rattle.std.proofs.Common.{refl, arith}
use Rattle.log_restart.specs.Inputs.{most_input_bytes}
use Rattle.log_restart.proofs.Costs.{total_past}
use Rattle.log_restart.proofs.inputs.total_len.Goals as goal

pub returns-in_err-len-clause-none : goal.returns-in_err-len-clause-none
returns-in_err-len-clause-none c = λ none.
    let here = c.loop-input in
    let past = c.in_err-len.ensures.none refl in
    total_past c.args.inputs.now here.input-index here.total most_input_bytes c.loop-input-test.true here.invariant.is (omega (arith, past))

pub returns-then-len-total-clause-none : goal.returns-then-len-total-clause-none
returns-then-len-total-clause-none c = λ none.
    let here = c.loop-input in
    let is = c.in_ok-len.ensures.some.0 in
    total_past c.args.inputs.now here.input-index here.total most_input_bytes c.loop-input-test.true here.invariant.is
    (omega (arith, c.if-len-total.true, is, here.invariant.few))
