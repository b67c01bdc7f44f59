use Rattle.client_memory.proofs.Answering.{stays}
use Rattle.client_memory.proofs.laws.other_answers_change_nothing.Goals as goal

pub returns : goal.returns
returns c = stays
