use Rattle.std.proofs.Common.{◌≡◌, ◌*◌, ap, ℕ, List, [], ◌∷◌, slice_index, slice_index_or}
use Rattle.sha2.specs.Sha256.{word_at}
use Rattle.hash_lanes.specs.Lanes.{values_in}
use Rattle.hash_lanes.proofs.LaneLemmas.{each_of_eight}
use Rattle.hash_lanes.proofs.TextLemmas.{value_in_words}
use Rattle.hash_lanes.proofs.text.with_value_in_all.Goals as goal

pub returns : goal.returns
unfolding values_in
returns c =
    let value = c.args.value.now in
    let in_all : ℕ → List ℕ = λ word. word ∷ word ∷ word ∷ word ∷ [] in
    let made = in_all c.word_of.result ∷ in_all c.word_of-2.result ∷ in_all c.word_of-3.result ∷ in_all c.word_of-4.result
    ∷ in_all c.word_of-5.result ∷ in_all c.word_of-6.result ∷ in_all c.word_of-7.result ∷ in_all c.word_of-8.result ∷ [] in
    ap (λ lane. lane ∷ lane ∷ lane ∷ lane ∷ []) (value_in_words made 0 value c.told-value c.fits-value
    (each_of_eight (λ k. slice_index (slice_index_or made k []) 0 ≡ word_at value (4 * k))
    c.word_of.ensures c.word_of-2.ensures c.word_of-3.ensures c.word_of-4.ensures
    c.word_of-5.ensures c.word_of-6.ensures c.word_of-7.ensures c.word_of-8.ensures))
