use Rattle.key_roll.proofs.Books.{is_roll-kind, named-roll}
use Rattle.key_roll.proofs.laws.texts_tell_rolls.Goals as goal

pub returns : goal.returns
returns c = record { kind = is_roll-kind; named = named-roll }
