use Rattle.std.proofs.Common.{[]}
use Rattle.sign_book.specs.Entry.{after_entry}
use Rattle.sign_book.proofs.Entries.{given, still, kept}
use Rattle.sign_book.proofs.laws.a_statement_keeps_its_leaf.Goals as goal

pub returns : goal.returns
returns c = λ book later more text leaf s e grown.
    kept later text leaf s (still (after_entry book text).texts more later.texts text leaf [] grown (given book text leaf [] e))
