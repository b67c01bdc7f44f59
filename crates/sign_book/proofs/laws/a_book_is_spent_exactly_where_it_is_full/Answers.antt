use Rattle.sign_book.proofs.Entries.{spent-to, spent-from}
use Rattle.sign_book.proofs.laws.a_book_is_spent_exactly_where_it_is_full.Goals as goal

pub returns : goal.returns
returns c = λ book text s. (spent-to book text s, spent-from book text)
