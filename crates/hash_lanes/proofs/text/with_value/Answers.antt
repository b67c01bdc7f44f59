use Rattle.std.proofs.Common.{◌≡◌, ◌∙◌, ◌*◌, [], ◌∷◌, slice_index, slice_index_or}
use Rattle.sha2.specs.Sha256.{word_at}
use Rattle.hash_lanes.proofs.LaneLemmas.{each_of_eight}
use Rattle.hash_lanes.proofs.TextLemmas.{values_in-put}
use Rattle.hash_lanes.proofs.text.with_value.Goals as goal

pub returns : goal.returns
returns c =
    let vectors = c.args.vectors.now in
    let lane = c.args.lane in
    let value = c.args.value.now in
    let made = c.with_lane.result ∷ c.with_lane-2.result ∷ c.with_lane-3.result ∷ c.with_lane-4.result ∷ c.with_lane-5.result ∷ c.with_lane-6.result ∷ c.with_lane-7.result ∷ c.with_lane-8.result ∷ [] in
    values_in-put vectors made lane value c.requires c.told-value c.fits-value
    (each_of_eight (λ k. slice_index (slice_index_or made k []) lane ≡ word_at value (4 * k))
    (c.with_lane.ensures.there ∙ c.word_of.ensures)
    (c.with_lane-2.ensures.there ∙ c.word_of-2.ensures)
    (c.with_lane-3.ensures.there ∙ c.word_of-3.ensures)
    (c.with_lane-4.ensures.there ∙ c.word_of-4.ensures)
    (c.with_lane-5.ensures.there ∙ c.word_of-5.ensures)
    (c.with_lane-6.ensures.there ∙ c.word_of-6.ensures)
    (c.with_lane-7.ensures.there ∙ c.word_of-7.ensures)
    (c.with_lane-8.ensures.there ∙ c.word_of-8.ensures))
    (λ k i within apart. each_of_eight (λ k. slice_index (slice_index_or made k []) i ≡ slice_index (slice_index_or vectors k []) i)
    (c.with_lane.ensures.others i apart)
    (c.with_lane-2.ensures.others i apart)
    (c.with_lane-3.ensures.others i apart)
    (c.with_lane-4.ensures.others i apart)
    (c.with_lane-5.ensures.others i apart)
    (c.with_lane-6.ensures.others i apart)
    (c.with_lane-7.ensures.others i apart)
    (c.with_lane-8.ensures.others i apart) k within)
