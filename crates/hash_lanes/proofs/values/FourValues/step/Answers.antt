use Rattle.std.proofs.Common.{◌∙◌, ap, sym, slice_index, slice_index_or, []}
use Rattle.sha2.specs.Sha256.{digest_bytes, padded_message, sha256}
use Rattle.hash_lanes.specs.Lanes.{step_text, value_in, values_in}
use Rattle.hash_lanes.proofs.TextLemmas.{length-step_text, length-value_in, sha256-one_block, value_at}
use Rattle.hash_lanes.proofs.values.FourValues.step.Goals as goal

pub returns : goal.returns
returns c i below =
    let vs = c.vectors.result in
    let leaf = slice_index c.args.leaves.now i in
    let text = step_text c.args.id.now leaf (slice_index c.args.chains.now i) (slice_index c.args.steps.now i) in
    let block = padded_message (text (value_in vs i)) in
    let begins = c.id_words.ensures leaf (slice_index c.args.chains.now i) (slice_index c.args.steps.now i) (value_in vs i) (c.fits-leaves i) (length-value_in vs i) in
    ap (λ ws. slice_index_or (values_in ws) i []) c.rows-self-inside.ensures
    ∙ value_at c.compressed.result i below
    ∙ ap (λ h. digest_bytes h 8) (c.compressed.ensures block i below (c.text_words-words.ensures i below) (c.after_five-after_five.ensures block i below begins))
    ∙ sym (sha256-one_block (text (value_in vs i)) (length-step_text _ _ _ _ _ c.told-id (length-value_in vs i)))
    ∙ ap (λ v. sha256 (text v)) (sym (value_at vs i below) ∙ ap (λ ws. slice_index_or (values_in ws) i []) c.vectors.ensures
    ∙ ap (λ values. slice_index_or values i []) c.self.view_is)
