-- How many steps stand in bytes.
use Rattle.std.proofs.Common.{◌≡◌, ℕ, zero, suc, ◌*◌, ◌/◌, ◌≤◌, List, length, drop, refl, ap, sym, ◌∙◌, subst, arith}
use Rattle.std.specs.Simd.{first_chunks}
use Rattle.ar_message.specs.Confirmation.{AreSteps}
use Rattle.tree_proof.specs.Fold.{digests_in}

chunk-count : (k : ℕ) (bytes : List ℕ) → length (first_chunks 32 k bytes) ≡ k
chunk-count zero bytes = refl
chunk-count (suc k) bytes = ap suc (chunk-count k (drop 32 bytes))

pub few-steps : (bytes steps : List ℕ) → bytes ≡ steps → AreSteps steps → length (digests_in bytes) ≤ 256
few-steps bytes steps is are =
    let long : length bytes ≡ 32 * are.0 = ap (λ (xs : List ℕ). length xs) is ∙ are.1.1 in
    let count : length bytes / 32 ≡ are.0 = omega (arith, long) in
    subst (λ n. n ≤ 256) (sym (chunk-count (length bytes / 32) bytes ∙ count)) are.1.0
