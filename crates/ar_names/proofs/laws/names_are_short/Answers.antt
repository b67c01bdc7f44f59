use Rattle.ar_names.proofs.Least.{short}
use Rattle.ar_names.proofs.laws.names_are_short.Goals as goal

pub returns : goal.returns
returns c = short
