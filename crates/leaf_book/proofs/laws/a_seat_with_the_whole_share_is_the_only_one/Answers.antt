use Rattle.leaf_book.proofs.Keeping.{whole_has_each, other_is_joined}
use Rattle.leaf_book.proofs.laws.a_seat_with_the_whole_share_is_the_only_one.Goals as goal

pub returns-clause-leaves : goal.returns-clause-leaves
returns-clause-leaves c = whole_has_each

pub returns-clause-others : goal.returns-clause-others
returns-clause-others c = other_is_joined
