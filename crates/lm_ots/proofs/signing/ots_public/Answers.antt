use Rattle.std.proofs.Common.{◌≡◌, ◌∙◌, ap, arith, ℕ, ◌-◌, ◌^◌, ◌<◌, [], slice_index_or}
use Rattle.std.proofs.lemmas.List.{get_or-replicate}
use Rattle.lm_ots.specs.OtsKind.{width_of, count_of}
use Rattle.lm_ots.specs.Signing.{public_key_of, value_after}
use Rattle.lm_ots.proofs.EndLemmas.{key_of_ends-same}
use Rattle.lm_ots.proofs.WayLemmas.{count_of-le, from_beginning}
use Rattle.lm_ots.proofs.signing.ots_public.Goals as goal

pub returns : goal.returns
unfolding public_key_of
returns c =
    let secret = c.args.secret.now in
    let few = count_of-le secret.kind in
    let end_is : (i : ℕ) → i < count_of secret.kind → slice_index_or c.walk.new.chains.values i [] ≡ value_after secret (2 ^ width_of secret.kind - 1) i =
    λ i below.
    let room : i < 268 = omega arith in
    c.walk.ensures i (omega (arith, c.p.ensures))
    ∙ from_beginning secret i _ _ _ (get_or-replicate 268 i 0 0 room) (c.put_beginnings.ensures i below)
    ∙ ap (λ n. value_after secret n i) (get_or-replicate 268 i c.last.result 0 room ∙ c.last.ensures) in
    c.key_of.ensures ∙ key_of_ends-same secret.id secret.leaf secret.kind _ _ end_is
