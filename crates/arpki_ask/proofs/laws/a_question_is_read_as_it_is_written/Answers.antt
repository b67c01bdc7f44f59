use Rattle.arpki_ask.proofs.Readings.{question_reads}
use Rattle.arpki_ask.proofs.laws.a_question_is_read_as_it_is_written.Goals as goal

pub returns : goal.returns
returns c = question_reads
