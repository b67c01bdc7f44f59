use Rattle.arpki_c.proofs.Carried.{kept_pin}
use Rattle.arpki_c.proofs.laws.a_pin_is_the_book.Goals as goal

pub returns : goal.returns
returns c = kept_pin
