use Rattle.std.proofs.Common.{rules}
use Rattle.serve_run.proofs.Turns.{works_own, works_other}
use Rattle.serve_run.proofs.worker.work.Goals as goal
use Rattle.serve_run.proofs.worker.work.Goals.{then-number-workers+in_ok-push_back, else-number-workers}

pub loop-number-preserved : goal.loop-number-preserved
loop-number-preserved g c = elim c.if-number-workers.branch [
  | then-number-workers+in_ok-push_back w ↦
      let on = works_own _ _ _ _ _ _ _ _ _ _ _ (search rules) (search rules) (search rules) c.requires.server.leaves w.reply-reply.ensures.replied w.reply-reply.ensures.drew c.loop-number.invariant in
      search (rules, on)
  | else-number-workers w ↦
      let on = works_other _ _ _ _ _ _ _ _ (search rules) (search rules) c.loop-number.invariant in
      search (rules, on)
]
