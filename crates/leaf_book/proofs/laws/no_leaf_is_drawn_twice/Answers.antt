use Rattle.leaf_book.proofs.Keeping.{sound}
use Rattle.leaf_book.proofs.laws.no_leaf_is_drawn_twice.Goals as goal

pub returns : goal.returns
returns c = λ leaves word seats place seat leaf kept at. (sound leaves word seats place seat kept at).1 leaf
