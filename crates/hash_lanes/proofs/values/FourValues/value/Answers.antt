use Rattle.std.proofs.Common.{◌∙◌, [], ap, slice_index_or, sym}
use Rattle.sha2.specs.Sha256.{digest_bytes}
use Rattle.hash_lanes.specs.Lanes.{values_in}
use Rattle.hash_lanes.proofs.TextLemmas.{value_at}
use Rattle.hash_lanes.proofs.values.FourValues.value.Goals as goal

pub returns : goal.returns
returns c =
    let lane = c.args.lane in
    c.bytes_of.ensures
    ∙ ap (λ words. digest_bytes words 8) c.words_in.ensures
    ∙ sym (value_at c.vectors.result lane c.requires)
    ∙ ap (λ vectors. slice_index_or (values_in vectors) lane []) c.vectors.ensures
    ∙ ap (λ values. slice_index_or values lane []) c.self.view_is
