use Rattle.std.proofs.Common.{◌≡◌, ◌∙◌, ap, subst, refl, arith, ℕ, [], slice_index_or}
use Rattle.std.specs.List.{flat_map, range_with_len}
use Rattle.sha2.specs.Hashers.{Holds256}
use Rattle.sha2.specs.Sha256.{sha256}
use Rattle.lm_ots.specs.Chain.{d_pblc, domain_text}
use Rattle.lm_ots.specs.OtsKind.{count_of}
use Rattle.lm_ots.proofs.EndLemmas.{domain_text-more}
use Rattle.lm_ots.proofs.values.key_of.Goals as goal

pub loop-i-preserved : goal.loop-i-preserved
loop-i-preserved c =
    let ends = λ (i : ℕ). slice_index_or c.args.ends.now i [] in
    subst (λ m. Holds256 c.update.new.self m)
    (domain_text-more c.args.id.now c.args.leaf d_pblc ends c.loop-i.i (ends c.loop-i.i) refl)
    (c.update.ensures _ c.loop-i.invariant)

pub returns : goal.returns
returns c =
    let ends = λ (i : ℕ). slice_index_or c.args.ends.now i [] in
    let at_end : c.loop-i.i ≡ count_of c.args.kind = omega (arith, c.p-i-end.ensures) in
    c.finalize.ensures _ c.loop-i.invariant
    ∙ ap (λ n. sha256 (domain_text c.args.id.now c.args.leaf d_pblc (flat_map ends (range_with_len 0 n)))) at_end
