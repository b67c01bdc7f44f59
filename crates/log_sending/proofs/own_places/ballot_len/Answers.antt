use Rattle.log_sending.proofs.OwnPlaces.{no_ballot-len, some_ballot-len}
use Rattle.log_sending.proofs.own_places.ballot_len.Goals as goal

pub returns-in-Some : goal.returns-in-Some
returns-in-Some c = some_ballot-len c.args.value.now c.in-Some.value c.in-Some.is c.value_told.ensures

pub returns-in-None : goal.returns-in-None
returns-in-None c = no_ballot-len c.args.value.now c.in-None.is
