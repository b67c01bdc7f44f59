use Rattle.key_roll.proofs.Books.{after_entry_keeps}
use Rattle.key_roll.proofs.laws.entries_keep_a_book_sound.Goals as goal

pub returns : goal.returns
returns c = after_entry_keeps
