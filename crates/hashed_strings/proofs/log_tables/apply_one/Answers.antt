-- A change is refused where its copy is.
use Rattle.std.proofs.Common.{sym, ap, ◌∙◌, [], ◌∷◌, Err}
use Rattle.ar_cert.specs.Changes.{Change}
use Rattle.domain_table.specs.Applying.{apply}
use Rattle.domain_table.specs.declared.fault.ApplyFault.TheVariants as faults
use Rattle.hashed_strings.proofs.Bases.{refused-alone}
use Rattle.hashed_strings.proofs.log_tables.apply_one.Goals as goal

pub returns : goal.returns
returns c =
    let at = c.in-Err-default-Change in
    let refused = (c.apply.ensures.refused at.field-0-1-0).0 (at.is ∙ ap (λ f. Err (at.field-0-0, f)) at.field-0-1-is ∙ ap (λ x. Err (x, faults.Change at.field-0-1-0)) at.ensures.back) in
    sym (ap (λ (x : Change). apply c.args.table.now c.args.epoch (x ∷ [])) (sym c.in_ok-copy.ensures)
    ∙ refused-alone c.args.table.now c.args.epoch c.in_ok-copy.field-0 [] at.field-0-1-0 refused)
