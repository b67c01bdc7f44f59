use Rattle.std.proofs.Common.{arith}
use Rattle.kept_journal.proofs.Stages.{few_settled}
use Rattle.kept_journal.proofs.journal.Journal.append.Goals as goal

pub overflow_add-self-2 : goal.overflow_add-self-2
overflow_add-self-2 g c = let few = few_settled _ _ _ _ _ c.in_ok-put_behind.ensures.ok in omega (arith, few)
