use Rattle.key_roll.proofs.Books.{serves_later}
use Rattle.key_roll.proofs.laws.a_text_keeps_its_leaf.Goals as goal

pub returns : goal.returns
returns c = serves_later
