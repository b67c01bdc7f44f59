use Rattle.authority_keeper.proofs.Spelled.{says_it}
use Rattle.authority_keeper.proofs.laws.a_text_says_its_input.Goals as goal

pub returns : goal.returns
returns c = says_it
