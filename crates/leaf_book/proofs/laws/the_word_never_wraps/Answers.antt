use Rattle.leaf_book.proofs.Keeping.{word_small}
use Rattle.leaf_book.proofs.laws.the_word_never_wraps.Goals as goal

pub returns : goal.returns
returns c = word_small
