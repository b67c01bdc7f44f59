use Rattle.owner_keeper.proofs.Spelled.{only_text}
use Rattle.owner_keeper.proofs.laws.only_texts_are_read.Goals as goal

pub returns : goal.returns
returns c = only_text
