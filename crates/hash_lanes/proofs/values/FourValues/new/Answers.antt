use Rattle.std.proofs.Common.{◌∙◌, ap, [], slice_index_or, slice_set}
use Rattle.hash_lanes.specs.Lanes.{values_in}
use Rattle.hash_lanes.proofs.TextLemmas.{four_of}
use Rattle.hash_lanes.proofs.values.FourValues.new.Goals as goal

pub returns : goal.returns
unfolding values_in
returns c =
    let values = c.args.values.now in
    c.put-4.ensures.all
    ∙ ap (λ l. slice_set l 3 (slice_index_or values 3 [])) (c.put-3.ensures.all
    ∙ ap (λ l. slice_set l 2 (slice_index_or values 2 [])) (c.put-2.ensures.all
    ∙ ap (λ l. slice_set l 1 (slice_index_or values 1 [])) c.put.ensures.all))
    ∙ four_of values c.told-values
