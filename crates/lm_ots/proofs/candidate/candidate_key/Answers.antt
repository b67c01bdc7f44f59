use Rattle.std.proofs.Common.{◌≡◌, ◌∙◌, ap, arith, ℕ, ◌-◌, ◌^◌, ◌<◌, [], slice_index, slice_index_or}
use Rattle.std.proofs.lemmas.List.{get_or-replicate}
use Rattle.lm_ots.specs.Chain.{chain}
use Rattle.lm_ots.specs.Digits.{digit}
use Rattle.lm_ots.specs.OtsKind.{width_of, count_of}
use Rattle.lm_ots.specs.Candidate.{candidate_end, candidate_key, message_hash, randomizer}
use Rattle.lm_ots.proofs.EndLemmas.{key_of_ends-same}
use Rattle.lm_ots.proofs.WayLemmas.{count_of-le}
use Rattle.lm_ots.proofs.candidate.candidate_key.Goals as goal

pub returns : goal.returns
unfolding candidate_key
returns c =
    let a = c.args in
    let id = a.id.now in
    let kind = a.kind in
    let q = message_hash id a.leaf (randomizer a.signature.now) a.message.now in
    let few = count_of-le kind in
    let values = c.put_elements.new.values in
    let starts = c.digits.result in
    let last = 2 ^ width_of kind - 1 in
    let end_is : (i : ℕ) → i < count_of kind → slice_index_or c.walk.new.chains.values i [] ≡ candidate_end id a.leaf kind q a.signature.now i =
    λ i below.
    let room : i < 268 = omega arith in
    c.walk.ensures i (omega (arith, c.p.ensures))
    ∙ ap (λ n. chain id a.leaf i (slice_index starts i) n (slice_index_or values i [])) (get_or-replicate 268 i c.last.result 0 room ∙ c.last.ensures)
    ∙ ap (λ n. chain id a.leaf i n last (slice_index_or values i [])) (c.digits.ensures i below ∙ ap (λ h. digit kind h i) c.message_hash-hash.ensures)
    ∙ ap (chain id a.leaf i (digit kind q i) last) (c.put_elements.ensures i below) in
    c.key_of.ensures ∙ key_of_ends-same id a.leaf kind _ _ end_is
