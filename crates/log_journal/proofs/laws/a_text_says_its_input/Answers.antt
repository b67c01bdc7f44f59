use Rattle.log_journal.proofs.Spelled.{says_it}
use Rattle.log_journal.proofs.laws.a_text_says_its_input.Goals as goal

pub returns : goal.returns
returns c = says_it
