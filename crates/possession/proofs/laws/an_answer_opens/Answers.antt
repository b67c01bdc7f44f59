use Rattle.possession.proofs.Opened.{answer_opens}
use Rattle.possession.proofs.laws.an_answer_opens.Goals as goal

pub returns : goal.returns
returns c = answer_opens
