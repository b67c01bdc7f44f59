use Rattle.domain_table.proofs.Epochs.{sound_after}
use Rattle.domain_table.proofs.laws.each_name_has_a_chain.Goals as goal

pub returns : goal.returns
returns c = λ epochs table are is name chain there. ((sound_after epochs table are is).chains name chain there).chain
