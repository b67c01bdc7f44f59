use Rattle.std.proofs.Common.{ap, sym, ◌∙◌, Err, inr, [], ◌∷◌}
use Rattle.ar_cert.specs.Changes.{Change}
use Rattle.domain_table.specs.Applying.{apply, judge}
use Rattle.domain_table.specs.declared.fault.ApplyFault.TheVariants as faults
use Rattle.log_sending.proofs.Leading.{one_refused, one_taken}
use Rattle.log_sending.proofs.judging.take_one.Goals as goal

pub returns-in-Ok : goal.returns-in-Ok
returns-in-Ok c =
    one_taken c.args.table.now c.apply.new.self c.args.epoch c.args.index c.args.change.now
    (c.in-Ok.ensures.ok ∙ ap (λ (x : Change). apply c.args.table.now c.args.epoch (x ∷ [])) (c.recall_queued.ensures ∙ c.in_ok-copied.ensures))

pub returns-in-Err-default-Change : goal.returns-in-Err-default-Change
returns-in-Err-default-Change c =
    let at = c.in-Err-default-Change in
    let is = (c.apply.ensures.refused at.refusal).0 (at.is ∙ ap (λ f. Err (at.field-0-0, f)) at.field-0-1-is ∙ ap (λ x. Err (x, faults.Change at.refusal)) at.ensures.back) in
    inr (one_refused c.args.table.now c.args.epoch c.args.index c.args.change.now at.refusal
    (ap (λ (x : Change). judge c.args.table.now c.args.epoch x) (sym (c.recall_queued.ensures ∙ c.in_ok-copied.ensures)) ∙ is))
