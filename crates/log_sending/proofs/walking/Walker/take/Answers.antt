use Rattle.std.proofs.Common.{ap, sym, ◌∙◌, [], ◌∷◌, Err}
use Rattle.ar_cert.specs.Changes.{Change}
use Rattle.domain_table.specs.Applying.{apply, judge}
use Rattle.domain_table.specs.declared.fault.ApplyFault.TheVariants as faults
use Rattle.log_sending.proofs.Walks.{over-refused-by, over-taken-ok}
use Rattle.log_sending.proofs.walking.Walker.take.Goals as goal

pub returns-in-Ok : goal.returns-in-Ok
returns-in-Ok c =
    over-taken-ok c.args.self.now c.put.new.self c.apply.new.self c.args.change.now c.args.len c.put.result c.put.ensures.low c.requires.sound c.requires.is_change
    c.requires.len c.requires.many c.requires.short
    (c.in-Ok.ensures.ok ∙ ap (λ (x : Change). apply c.args.self.now.table c.args.self.now.epoch (x ∷ [])) c.in_ok-copy.ensures)
    c.put.ensures.epoch c.put.ensures.table c.put.ensures.taken c.put.ensures.many c.put.ensures.left

pub returns-in-Err-default-Change : goal.returns-in-Err-default-Change
returns-in-Err-default-Change c =
    let at = c.in-Err-default-Change in
    let is = (c.apply.ensures.refused at.field-0-1-0).0 (at.is ∙ ap (λ f. Err (at.field-0-0, f)) at.field-0-1-is ∙ ap (λ x. Err (x, faults.Change at.field-0-1-0)) at.ensures.back) in
    over-refused-by c.args.self.now c.apply.new.self c.args.change.now at.field-0-1-0 c.requires.sound at.ensures.same
    (ap (λ (x : Change). judge c.args.self.now.table c.args.self.now.epoch x) (sym c.in_ok-copy.ensures) ∙ is)
