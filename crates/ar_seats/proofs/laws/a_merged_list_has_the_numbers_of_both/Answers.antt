use Rattle.ar_seats.proofs.RisingLemmas.{times-merged, rising_merged}
use Rattle.ar_seats.proofs.laws.a_merged_list_has_the_numbers_of_both.Goals as goal

pub returns-clause-numbers : goal.returns-clause-numbers
returns-clause-numbers c = times-merged

pub returns-clause-rising : goal.returns-clause-rising
returns-clause-rising c = rising_merged
