use Rattle.ar_seats.proofs.NumbersLemmas.{length_each}
use Rattle.ar_seats.proofs.laws.each_number_below_a_limit_is_as_many.Goals as goal

pub returns : goal.returns
returns c = length_each
