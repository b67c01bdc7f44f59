use Rattle.possession.proofs.Stapled.{is_open_stapled}
use Rattle.possession.proofs.laws.a_staple_is_of_the_epoch_and_the_channel.Goals as goal

pub returns : goal.returns
returns c = is_open_stapled
