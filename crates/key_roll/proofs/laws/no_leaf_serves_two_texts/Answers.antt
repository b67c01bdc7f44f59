use Rattle.key_roll.proofs.Books.{one_text}
use Rattle.key_roll.proofs.laws.no_leaf_serves_two_texts.Goals as goal

pub returns : goal.returns
returns c = one_text
