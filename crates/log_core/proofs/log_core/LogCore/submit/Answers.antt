use Rattle.std.proofs.Common.{Bool, false, true, ap, ◌∙◌, Ok, Result}
use Rattle.ar_cert.specs.Changes.{Change}
use Rattle.log_sending.specs.declared.refusal.LogRefusal.{LogRefusal}
use Rattle.log_core.specs.Submit.{queueing}
use Rattle.log_core.proofs.Submitted.{submit-made, submit-refused}
use Rattle.log_core.proofs.log_core.LogCore.submit.Goals as goal
use Rattle.log_core.proofs.log_core.LogCore.submit.Goals.{then-not-queued+in_ok-enqueue, else-not-queued}

pub returns-in-Err : goal.returns-in-Err
returns-in-Err c = submit-refused c.args.self.now c.args.change c.in-Err.refusal c.in-Err.ensures.judged

pub returns : goal.returns
returns c = elim c.if-not-queued.branch [
  | then-not-queued+in_ok-enqueue w ↦
      submit-made c.args.self.now c.args.change false c.nothing.result c.if-not-queued.self
      (c.in-Ok.ensures.judged ∙ ap (λ (b : Bool). let r : Result Bool LogRefusal = Ok b in r) w.if-not-queued.true) c.nothing.ensures
      (w.self-is ∙ w.in_ok-enqueue.ensures.ok ∙ ap (λ (x : Change). queueing c.args.self.now x) c.in-Ok.ensures.same)
  | else-not-queued w ↦
      submit-made c.args.self.now c.args.change true c.nothing.result c.if-not-queued.self
      (c.in-Ok.ensures.judged ∙ ap (λ (b : Bool). let r : Result Bool LogRefusal = Ok b in r) w.if-not-queued.false) c.nothing.ensures w.self-is
]
