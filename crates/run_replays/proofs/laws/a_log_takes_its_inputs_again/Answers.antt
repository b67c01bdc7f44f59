use Rattle.run_replays.proofs.Becoming.{becomes-more, becomes-one, inputs-append, own-key, takes-next}
use Rattle.run_replays.proofs.laws.a_log_takes_its_inputs_again.Goals as goal

pub returns : goal.returns
returns c = record {
  next = takes-next;
  all = λ first here last inputs becomes came. becomes-one inputs first here last came becomes;
  more = becomes-more;
  own = own-key;
  inputs = inputs-append;
}
