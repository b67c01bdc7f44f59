use Rattle.std.proofs.Common.{◌≡◌, ◌∙◌, ap, refl, sym, arith, ◌+◌, [], ◌∷◌, slice_index_or}
use Rattle.std.proofs.lemmas.List.{get_or-replicate}
use Rattle.lm_ots.specs.Signing.{secret_behind, value_after}
use Rattle.lm_ots.proofs.ChainLemmas.{chain-more, chain-none}
use Rattle.lm_ots.proofs.FourLemmas.{step-same}
use Rattle.lm_ots.proofs.WayLemmas.{each_lane}
use Rattle.lm_ots.proofs.four_leaves.take_to_ends.Goals as goal

pub loop-step-init : goal.loop-step-init
loop-step-init c = λ k below.
    let secret = c.args.secret.now in
    let seed = secret.seed in
    let i = c.args.i in
    let seeds = each_lane (λ k. slice_index_or (seed ∷ seed ∷ seed ∷ seed ∷ []) k [] ≡ seed) refl refl refl refl k below in
    c.step.ensures k below
    ∙ step-same secret.id _ (secret.leaf + k) _ i _ 0xff _ seed (c.requires k below)
    (get_or-replicate 4 k i 0 below) (get_or-replicate 4 k 0xff 0 below)
    (ap (λ l. slice_index_or l k []) c.put_all.ensures ∙ seeds)
    ∙ sym (chain-none secret.id (secret.leaf + k) i 0 0 _ (omega arith))

pub loop-step-preserved : goal.loop-step-preserved
loop-step-preserved c = λ k below.
    let secret = c.args.secret.now in
    let i = c.args.i in
    let step = c.loop-step.step in
    c.step-in-loop-step.ensures k below
    ∙ step-same secret.id _ (secret.leaf + k) _ i _ step _ (value_after (secret_behind secret k) step i) (c.requires k below)
    (get_or-replicate 4 k i 0 below) (get_or-replicate 4 k step 0 below) (c.loop-step.invariant k below)
    ∙ sym (chain-more secret.id (secret.leaf + k) i 0 step (step + 1) _ refl (omega arith))
