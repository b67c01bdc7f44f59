use Rattle.std.proofs.Common.{◌∙◌, [], ◌∷◌, cond, ltb, ap, w32, slice_index}
use Rattle.std.specs.Simd.Lanes.{sel_l}
use Rattle.std.proofs.lemmas.Simd.{tops_compared}
use Rattle.hash_lanes.proofs.LaneLemmas.{chosen_lane}
use Rattle.hash_lanes.proofs.lanes.choose.Goals as goal

pub returns-clause-left : goal.returns-clause-left
returns-clause-left c i h stays =
    let a = c.args.a in
    let b = c.args.b in
    ap (λ ms. slice_index (sel_l ms a b) i) (tops_compared w32 ltb (0 ∷ 0 ∷ 0 ∷ 0 ∷ []) c.args.moves)
    ∙ chosen_lane c.args.moves a b i c.fits-moves.0 c.fits-a.0 c.fits-b.0 h
    ∙ ap (λ n. cond (ltb 0 n) (slice_index a i) (slice_index b i)) stays
