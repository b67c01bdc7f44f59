use Rattle.key_roll.proofs.Books.{roll_is_new, roll_keeps}
use Rattle.key_roll.proofs.laws.rolls_keep_a_book_sound.Goals as goal

pub returns : goal.returns
returns c = record { new = roll_is_new; sound = roll_keeps }
