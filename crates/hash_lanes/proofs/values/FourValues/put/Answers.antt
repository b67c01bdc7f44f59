use Rattle.std.proofs.Common.{◌∙◌, ap, [], slice_index_or}
use Rattle.hash_lanes.specs.Lanes.{values_in}
use Rattle.hash_lanes.proofs.TextLemmas.{put_here}
use Rattle.hash_lanes.proofs.values.FourValues.put.Goals as goal

pub returns-clause-here : goal.returns-clause-here
returns-clause-here c =
    let lane = c.args.lane in
    ap (λ vectors. slice_index_or (values_in vectors) lane []) c.rows-self-inside.ensures
    ∙ ap (λ values. slice_index_or values lane []) c.with_value.ensures
    ∙ put_here c.vectors.result lane c.args.value.now c.requires
