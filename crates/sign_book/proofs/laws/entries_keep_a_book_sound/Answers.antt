use Rattle.sign_book.proofs.Entries.{sound-after}
use Rattle.sign_book.proofs.laws.entries_keep_a_book_sound.Goals as goal

pub returns : goal.returns
returns c = sound-after
