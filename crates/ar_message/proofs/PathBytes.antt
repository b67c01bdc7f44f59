-- The digests of a path lie in its bytes, one behind the other.
use Rattle.std.proofs.Common.{◌≡◌, ℕ, ◌/◌, List, length, ap, ◌∙◌, All, arith}
use Rattle.std.specs.List.{concat}
use Rattle.std.specs.Simd.{first_chunks}
use Rattle.std.proofs.lemmas.List.Elements.{All-weaker}
use Rattle.ar_base.specs.Bytes.{IsDigest}
use Rattle.ar_base.proofs.Joined.{AreWide, cut-joined, length-joined}
use Rattle.tree_proof.specs.Fold.{digests_in}

pub digests-joined : (steps : List (List ℕ)) → All IsDigest steps → digests_in (concat steps) ≡ steps
digests-joined steps h =
    let wide : AreWide 32 steps = All-weaker IsDigest (λ (step : List ℕ). length step ≡ 32) (λ step is. is.len) steps h in
    let count : length (concat steps) / 32 ≡ length steps = omega (arith, length-joined 32 steps wide) in
    ap (λ (k : ℕ). first_chunks 32 k (concat steps)) count ∙ cut-joined 32 steps wide
