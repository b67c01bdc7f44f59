use Rattle.leaf_book.proofs.Keeping.{apart_by_rule}
use Rattle.leaf_book.proofs.laws.no_leaf_is_drawn_by_two_seats.Goals as goal

pub returns : goal.returns
returns c = apart_by_rule
