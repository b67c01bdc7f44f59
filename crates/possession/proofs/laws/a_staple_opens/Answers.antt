use Rattle.possession.proofs.Stapled.{staple_opens}
use Rattle.possession.proofs.laws.a_staple_opens.Goals as goal

pub returns : goal.returns
returns c = staple_opens
