use Rattle.std.proofs.Common.{◌∙◌, ◌++◌, [], ap, refl, slice_index, slice_index_or, w32}
use Rattle.std.specs.Int.{to_be_bytes}
use Rattle.sha2.specs.Sha256.{word_at}
use Rattle.hash_lanes.proofs.LaneLemmas.{splat_lane}
use Rattle.hash_lanes.proofs.TextLemmas.{text_has_words}
use Rattle.hash_lanes.proofs.text.text_words.Goals as goal

pub returns : goal.returns
returns c i below =
    text_has_words _ (slice_index c.args.leaves.now i) _ _ c.args.values.now i _ _ _ _ _ _ _ _ _ _ _ _ _ _ _ _ c.told-id (c.fits-leaves i)
    (splat_lane _ i below ∙ c.word_of.ensures)
    (splat_lane _ i below ∙ c.word_of-2.ensures)
    (splat_lane _ i below ∙ c.word_of-3.ensures)
    (splat_lane _ i below ∙ c.word_of-4.ensures)
    refl
    (c.numbers.ensures i below)
    (c.behind_one_byte.ensures i below)
    (c.behind_one_byte-2.ensures i below)
    (c.behind_one_byte-3.ensures i below)
    (c.behind_one_byte-4.ensures i below)
    (c.behind_one_byte-5.ensures i below)
    (c.behind_one_byte-6.ensures i below)
    (c.behind_one_byte-7.ensures i below)
    (c.behind_one_byte-8.ensures i below ∙ ap (λ x. word_at (to_be_bytes w32 (slice_index (slice_index_or c.args.values.now 7 []) i) ++ to_be_bytes w32 x) 1) (splat_lane 0x80000000 i below))
    (splat_lane 0 i below)
    (splat_lane 440 i below)
