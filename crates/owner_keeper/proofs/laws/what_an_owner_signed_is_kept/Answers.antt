use Rattle.owner_keeper.proofs.Lasting.{order_on, signed_kept}
use Rattle.owner_keeper.proofs.laws.what_an_owner_signed_is_kept.Goals as goal

pub returns : goal.returns
returns c = record { order = order_on; lives = signed_kept }
