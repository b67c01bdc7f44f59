-- A confirmation has at most 256 steps.
use Rattle.hashed_strings.proofs.Steps.{few-steps}
use Rattle.hashed_strings.proofs.judged_strings.put_confirmation.Goals as goal

pub put_present-requires : goal.put_present-requires
put_present-requires c = few-steps c.steps.result.now c.args.view.now.steps c.steps.ensures c.told.ensures.steps

pub put_absent-requires : goal.put_absent-requires
put_absent-requires c = few-steps c.steps-in-Absent.result.now c.args.view.now.steps c.steps-in-Absent.ensures c.told.ensures.steps
