use Rattle.ar_statement.proofs.OneText.{one_text}
use Rattle.ar_statement.proofs.laws.a_text_is_of_one_statement.Goals as goal

pub returns : goal.returns
returns c = one_text
