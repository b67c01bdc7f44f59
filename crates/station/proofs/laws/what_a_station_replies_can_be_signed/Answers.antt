use Rattle.station.proofs.Keeping.{signs, signs-after, stays, stays-after}
use Rattle.station.proofs.laws.what_a_station_replies_can_be_signed.Goals as goal

pub returns : goal.returns
returns c = record {
  stays = λ s keys d note is noted. stays s keys d note is noted;
  signs = λ s keys d note is noted. signs s keys d note is noted;
  after = λ s keys calls is legally. stays-after s keys calls is legally;
  answered = λ s keys before d note is legally. signs-after s keys before d note is legally;
}
