use Rattle.bound_challenge.proofs.Parts.{one_staple}
use Rattle.bound_challenge.proofs.laws.a_staple_is_of_one_epoch_and_channel.Goals as goal

pub returns : goal.returns
returns c = one_staple
