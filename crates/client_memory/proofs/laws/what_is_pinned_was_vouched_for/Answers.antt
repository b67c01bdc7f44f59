use Rattle.client_memory.proofs.Answering.{first, moved}
use Rattle.client_memory.proofs.laws.what_is_pinned_was_vouched_for.Goals as goal

pub returns-clause-first : goal.returns-clause-first
returns-clause-first c = first

pub returns-clause-moved : goal.returns-clause-moved
returns-clause-moved c = moved
