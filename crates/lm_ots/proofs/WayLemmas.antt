-- A step of a chain leaves where it leads.
use Rattle.std.proofs.Common.{◌≡◌, ◌∙◌, ap, sym, refl, arith, ℕ, zero, suc, ◌+◌, ◌<◌, ◌≤◌, List, length, get_or, slice_index, replicate, Bool, true, false, nat_lt, if◌then◌else◌}
use Rattle.std.proofs.Math.ListN.{set}
use Rattle.std.proofs.lemmas.Bool.Decides.{nat_tests}
use Rattle.std.proofs.lemmas.List.Edits.{fill_by_more}
use Rattle.sha2.specs.Sha256.{sha256}
use Rattle.lm_ots.specs.declared.ots_type.OtsType.{OtsType}
use Rattle.lm_ots.specs.declared.ots_type.OtsType.TheVariants.{W1, W2, W4, W8}
use Rattle.lm_ots.specs.OtsKind.{count_of}
use Rattle.lm_ots.specs.declared.secret.OtsSecret.{OtsSecret}
use Rattle.lm_ots.specs.Signing.{secret_element, value_after}
use Rattle.lm_ots.specs.Chain.{chain, step_text}
use Rattle.lm_ots.proofs.ChainLemmas.{chain-none, chain-more, chain-join}

-- what holds of each of four lanes
pub each_lane : (P : ℕ → Type 0) → P 0 → P 1 → P 2 → P 3 → (k : ℕ) → k < 4 → P k
each_lane P a b c d zero below = a
each_lane P a b c d (suc zero) below = b
each_lane P a b c d (suc (suc zero)) below = c
each_lane P a b c d (suc (suc (suc zero))) below = d
each_lane P a b c d (suc (suc (suc (suc k)))) below = absurd (omega arith)

-- the first step of a chain, and then the others
pub chain-first : (id : List ℕ) (leaf i a b : ℕ) (x : List ℕ) → a < b → chain id leaf i (a + 1) b (sha256 (step_text id leaf i a x)) ≡ chain id leaf i a b x
chain-first id leaf i a b x below =
    let first : chain id leaf i a (a + 1) x ≡ sha256 (step_text id leaf i a x) =
    chain-more id leaf i a a (a + 1) x refl (omega arith)
    ∙ ap (λ v. sha256 (step_text id leaf i a v)) (chain-none id leaf i a a x (omega arith)) in
    ap (chain id leaf i (a + 1) b) (sym first) ∙ chain-join id leaf i a (a + 1) b x (omega arith) (omega arith)

-- a chain that is at its end stays, and another makes a step
pub chain-step : (id : List ℕ) (leaf i a b next : ℕ) (x value : List ℕ) (moves : Bool) → moves ≡ nat_lt a b → (moves ≡ true → value ≡ sha256 (step_text id leaf i a x)) → (moves ≡ false → value ≡ x) → next ≡ (if nat_lt a b then a + 1 else a) → chain id leaf i next b value ≡ chain id leaf i a b x
chain-step id leaf i a b next x value true says moved left counts =
    let below : a < b = grind (arith, nat_tests) in
    let number : next ≡ a + 1 = grind (arith, nat_tests) in
    ap (λ n. chain id leaf i n b value) number
    ∙ ap (chain id leaf i (a + 1) b) (moved refl)
    ∙ chain-first id leaf i a b x below
chain-step id leaf i a b next x value false says moved left counts =
    let number : next ≡ a = grind (arith, nat_tests) in
    ap (λ n. chain id leaf i n b value) number ∙ ap (chain id leaf i a b) (left refl)

-- one value more
pub put_more : {X : Type 0} (f : ℕ → X) (d : X) (xs : List X) (i : ℕ) (v : X) → i < length xs → v ≡ f i → ((k : ℕ) → k < i → get_or xs k d ≡ f k) → (k : ℕ) → k < i + 1 → get_or (set xs i v) k d ≡ f k
put_more f d xs i v room e before k below =
    ap (λ x. get_or (set xs i x) k d) e ∙ fill_by_more f xs i d room before k below

-- there is room for the chains of each type
pub count_of-le : (kind : OtsType) → count_of kind ≤ 265
count_of-le W1 = omega arith
count_of-le W2 = omega arith
count_of-le W4 = omega arith
count_of-le W8 = omega arith

-- a chain of a key from its beginning on
pub from_beginning : (secret : OtsSecret) (i n next : ℕ) (x : List ℕ) → next ≡ 0 → x ≡ secret_element secret i → chain secret.id secret.leaf i next n x ≡ value_after secret n i
from_beginning secret i n next x e h =
    ap (λ a. chain secret.id secret.leaf i a n x) e ∙ ap (chain secret.id secret.leaf i 0 n) h

-- a list of zeros has no other number
pub none_of_zeros : (n k : ℕ) → slice_index (replicate n 0) k ≡ 0
none_of_zeros zero k = refl
none_of_zeros (suc n) zero = refl
none_of_zeros (suc n) (suc k) = none_of_zeros n k
