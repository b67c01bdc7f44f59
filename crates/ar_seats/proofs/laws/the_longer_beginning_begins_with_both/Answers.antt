use Rattle.ar_seats.proofs.PrefixLemmas.{longer_begins}
use Rattle.ar_seats.proofs.laws.the_longer_beginning_begins_with_both.Goals as goal

pub returns : goal.returns
returns g c = longer_begins
