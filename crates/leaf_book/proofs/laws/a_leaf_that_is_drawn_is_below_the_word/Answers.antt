use Rattle.leaf_book.proofs.Keeping.{drawn_is_below}
use Rattle.leaf_book.proofs.laws.a_leaf_that_is_drawn_is_below_the_word.Goals as goal

pub returns : goal.returns
returns c = drawn_is_below
