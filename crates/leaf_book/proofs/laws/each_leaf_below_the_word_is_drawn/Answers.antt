use Rattle.leaf_book.proofs.Keeping.{some_seat_has}
use Rattle.leaf_book.proofs.laws.each_leaf_below_the_word_is_drawn.Goals as goal

pub returns : goal.returns
returns c = some_seat_has
