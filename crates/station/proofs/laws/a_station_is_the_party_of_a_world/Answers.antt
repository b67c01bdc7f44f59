use Rattle.station.proofs.Parties.{authority-is, each-is-noted, log-is}
use Rattle.station.proofs.laws.a_station_is_the_party_of_a_world.Goals as goal

pub returns : goal.returns
returns c = record {
  log = λ pool message number node d note is. log-is pool message number node d note is;
  authority = λ pool message number node d note is. authority-is pool message number node d note is;
  noted = λ says pool message number node d are is. each-is-noted says pool message number node d are is;
}
