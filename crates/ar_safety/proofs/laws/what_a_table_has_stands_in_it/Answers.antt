use Rattle.ar_safety.proofs.Succession.{has-stands}
use Rattle.ar_safety.proofs.laws.what_a_table_has_stands_in_it.Goals as goal

pub returns : goal.returns
returns c = has-stands
