use Rattle.std.proofs.Common.{[]}
use Rattle.sign_book.proofs.Entries.{given, within-leaves}
use Rattle.sign_book.proofs.laws.a_leaf_is_the_place_of_its_text.Goals as goal

pub returns : goal.returns
returns c = λ book text leaf s e. let g = given book text leaf [] e in (within-leaves book text leaf s e, g.0, g.1)
