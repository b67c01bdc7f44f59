use Rattle.owner_keeper.proofs.Spelled.{says_it}
use Rattle.owner_keeper.proofs.laws.a_text_says_its_order.Goals as goal

pub returns : goal.returns
returns c = says_it
