use Rattle.std.proofs.Common.{◌≡◌, ◌∙◌, arith, lit<, subst, [], ◌∷◌, slice_index_or}
use Rattle.sha2.specs.Hashers.{Holds256}
use Rattle.lm_ots.specs.OtsKind.{count_of}
use Rattle.lm_ots.specs.Signing.{public_key_of, secret_behind}
use Rattle.lm_ots.proofs.FourLemmas.{key-behind, text_behind-more}
use Rattle.lm_ots.proofs.WayLemmas.{each_lane}
use Rattle.lm_ots.proofs.four_leaves.four_ots_publics.Goals as goal

pub loop-i-preserved : goal.loop-i-preserved
loop-i-preserved c =
    let secret = c.args.secret.now in
    let i = c.loop-i.i in
    let held = c.loop-i.invariant in
    let ends = c.take_to_ends.ensures in
    record {
      first = subst (λ m. Holds256 c.update.new.self m)
          (text_behind-more secret 0 i _ (c.value.ensures ∙ ends 0 (lit< tt))) (c.update.ensures _ held.first);
      second = subst (λ m. Holds256 c.update-in-loop-i.new.self m)
          (text_behind-more secret 1 i _ (c.value-in-loop-i.ensures ∙ ends 1 (lit< tt))) (c.update-in-loop-i.ensures _ held.second);
      third = subst (λ m. Holds256 c.update-in-loop-i-2.new.self m)
          (text_behind-more secret 2 i _ (c.value-in-loop-i-2.ensures ∙ ends 2 (lit< tt))) (c.update-in-loop-i-2.ensures _ held.third);
      fourth = subst (λ m. Holds256 c.update-in-loop-i-3.new.self m)
          (text_behind-more secret 3 i _ (c.value-in-loop-i-3.ensures ∙ ends 3 (lit< tt))) (c.update-in-loop-i-3.ensures _ held.fourth);
    }

pub returns : goal.returns
returns c =
    let secret = c.args.secret.now in
    let i = c.loop-i.i in
    let held = c.loop-i.invariant in
    let all : i ≡ count_of secret.kind = omega (arith, c.p-i-end.ensures) in
    each_lane (λ k. slice_index_or (c.finalize.result ∷ c.finalize-2.result ∷ c.finalize-3.result ∷ c.finalize-4.result ∷ []) k []
    ≡ public_key_of (secret_behind secret k))
    (c.finalize.ensures _ held.first ∙ key-behind secret 0 i all)
    (c.finalize-2.ensures _ held.second ∙ key-behind secret 1 i all)
    (c.finalize-3.ensures _ held.third ∙ key-behind secret 2 i all)
    (c.finalize-4.ensures _ held.fourth ∙ key-behind secret 3 i all)
