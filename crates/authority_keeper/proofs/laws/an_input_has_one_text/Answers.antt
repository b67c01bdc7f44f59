use Rattle.authority_keeper.proofs.Spelled.{one_text}
use Rattle.authority_keeper.proofs.laws.an_input_has_one_text.Goals as goal

pub returns : goal.returns
returns c = one_text
