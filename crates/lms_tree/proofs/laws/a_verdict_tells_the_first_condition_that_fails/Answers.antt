use Rattle.lms_tree.proofs.VerdictLemmas.{valid, invalid}
use Rattle.lms_tree.proofs.laws.a_verdict_tells_the_first_condition_that_fails.Goals as goal

pub returns : goal.returns
returns c = record { valid = valid; invalid = invalid }
