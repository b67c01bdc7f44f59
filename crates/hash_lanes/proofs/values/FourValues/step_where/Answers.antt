use Rattle.std.proofs.Common.{◌∙◌, ap, sym, slice_index_or, []}
use Rattle.sha2.specs.Sha256.{digest_bytes}
use Rattle.hash_lanes.specs.Lanes.{values_in}
use Rattle.hash_lanes.proofs.TextLemmas.{value_at}
use Rattle.hash_lanes.proofs.values.FourValues.step_where.Goals as goal

pub returns-clause-moved : goal.returns-clause-moved
returns-clause-moved c i below moves =
    ap (λ ws. slice_index_or (values_in ws) i []) c.rows-self-inside.ensures
    ∙ value_at c.chosen.result i below
    ∙ ap (λ h. digest_bytes h 8) (c.chosen.ensures.moved i below moves)
    ∙ sym (value_at c.vectors.result i below)
    ∙ ap (λ ws. slice_index_or (values_in ws) i []) c.vectors.ensures
    ∙ ap (λ values. slice_index_or values i []) c.self-2.view_is
    ∙ c.step.ensures i below

pub returns-clause-left : goal.returns-clause-left
returns-clause-left c i below stays =
    ap (λ ws. slice_index_or (values_in ws) i []) c.rows-self-inside.ensures
    ∙ value_at c.chosen.result i below
    ∙ ap (λ h. digest_bytes h 8) (c.chosen.ensures.left i below stays)
    ∙ sym (value_at c.vectors-before.result i below)
    ∙ ap (λ ws. slice_index_or (values_in ws) i []) c.vectors-before.ensures
    ∙ ap (λ values. slice_index_or values i []) c.self.view_is
