use Rattle.std.proofs.Common.{arith}
use Rattle.ar_seats.proofs.NumbersLemmas.{standing-lt, times_of_place, place_of_times, once_below-lt}
use Rattle.ar_seats.proofs.laws.what_it_has_is_below_the_limit.Goals as goal

pub returns : goal.returns
returns c = λ limit numbers number each. (
  (λ place. standing-lt limit numbers each number (times_of_place numbers place.0 number place.1 place.2)),
  (λ below. place_of_times numbers number (omega (arith, each number, once_below-lt limit number below))),
)
