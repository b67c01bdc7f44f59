use Rattle.authority_keeper.proofs.Answered.{in_book}
use Rattle.authority_keeper.proofs.laws.none_is_endorsed_but_by_the_book.Goals as goal

pub returns : goal.returns
returns c = in_book
