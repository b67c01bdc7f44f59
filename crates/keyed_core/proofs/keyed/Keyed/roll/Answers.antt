use Rattle.ar_message.proofs.Filled.{filled-few}
use Rattle.keyed_core.proofs.keyed.Keyed.roll.Goals as goal

pub returns-clause-few : goal.returns-clause-few
returns-clause-few g c = filled-few g.P.Keyless.most_sent c.add_reserved.new.self.keys c.in_ok-unsigned.unsigned c.fill.result c.in_ok-unsigned.ensures.few c.fill.ensures
