use Rattle.client_memory.proofs.Books.{other-out, own-out}
use Rattle.client_memory.proofs.laws.one_name_is_forgotten.Goals as goal

pub returns-clause-out : goal.returns-clause-out
returns-clause-out c = own-out

pub returns-clause-others : goal.returns-clause-others
returns-clause-others c = λ book name other differ. other-out book name other differ
