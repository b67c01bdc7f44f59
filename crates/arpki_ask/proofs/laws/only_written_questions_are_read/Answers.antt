use Rattle.arpki_ask.proofs.Writings.{question_alone}
use Rattle.arpki_ask.proofs.laws.only_written_questions_are_read.Goals as goal

pub returns : goal.returns
returns c = question_alone
