use Rattle.possession.proofs.Texts.{no_handover, one_answer}
use Rattle.possession.proofs.laws.an_answer_is_to_one_challenge.Goals as goal

pub returns-clause-one : goal.returns-clause-one
returns-clause-one c = one_answer

pub returns-clause-no_handover : goal.returns-clause-no_handover
returns-clause-no_handover c = no_handover
