use Rattle.std.proofs.Common.{◌∙◌, arith}
use Rattle.chained_journal.proofs.Stages.{few_settled}
use Rattle.chained_journal.proofs.journal.Journal.append.Goals as goal

pub overflow_add-self-2 : goal.overflow_add-self-2
overflow_add-self-2 g c =
    let few = few_settled _ _ _ _ _ _ (c.in_ok-put_behind.ensures.ok c.args.text c.staged-bytes.ensures.short (c.deref.ensures.value ∙ c.staged-bytes.ensures.bytes)) in
    omega (arith, few)
