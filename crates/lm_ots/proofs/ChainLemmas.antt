-- The laws of the chain.
use Rattle.std.proofs.Common.{◌≡◌, ◌∙◌, ap, sym, inl, inr, ℕ, zero, suc, ◌+◌, ◌-◌, ◌≤◌, List, length, refl, arith}
use Rattle.std.proofs.lemmas.Bool.{cases_lt}
use Rattle.std.proofs.lemmas.Bool.Decides.{nat_tests}
use Rattle.sha2.specs.Sha256.{sha256}
use Rattle.sha2.proofs.Facts256.{length-sha256}
use Rattle.lm_ots.specs.Chain.{chain, step_text}

-- no step to a place that has been reached already
pub chain-none : (id : List ℕ) (leaf i a b : ℕ) (x : List ℕ) → b ≤ a → chain id leaf i a b x ≡ x
unfolding chain
chain-none id leaf i a zero x h = refl
chain-none id leaf i a (suc b) x h = grind (arith, nat_tests)

-- one step more
pub chain-more : (id : List ℕ) (leaf i a b c : ℕ) (x : List ℕ) → c ≡ b + 1 → a ≤ b → chain id leaf i a c x ≡ sha256 (step_text id leaf i b (chain id leaf i a b x))
unfolding chain
chain-more id leaf i a b zero x e h = grind arith
chain-more id leaf i a b (suc c) x e h = grind (arith, nat_tests)

-- a chain keeps the length of a digest
pub length-chain : (id : List ℕ) (leaf i a b : ℕ) (x : List ℕ) → length x ≡ 32 → length (chain id leaf i a b x) ≡ 32
length-chain id leaf i a b x h =
    elim (cases_lt a b) [
      | inl below ↦ ap length (chain-more id leaf i a (b - 1) b x (omega arith) (omega arith)) ∙ length-sha256 _
      | inr above ↦ ap length (chain-none id leaf i a b x above) ∙ h
    ]

-- steps behind steps
pub chain-join : (id : List ℕ) (leaf i a b c : ℕ) (x : List ℕ) → a ≤ b → b ≤ c → chain id leaf i b c (chain id leaf i a b x) ≡ chain id leaf i a c x
chain-join id leaf i a b zero x low high =
    let none : b ≡ 0 = omega arith in
    chain-none id leaf i b 0 (chain id leaf i a b x) (omega arith) ∙ ap (λ n. chain id leaf i a n x) none
chain-join id leaf i a b (suc c) x low high =
    elim (cases_lt b (suc c)) [
      | inl below ↦
          chain-more id leaf i b c (suc c) (chain id leaf i a b x) (omega arith) (omega arith)
          ∙ ap (λ v. sha256 (step_text id leaf i c v)) (chain-join id leaf i a b c x low (omega arith))
          ∙ sym (chain-more id leaf i a c (suc c) x (omega arith) (omega arith))
      | inr above ↦
          let all : b ≡ suc c = omega arith in
          chain-none id leaf i b (suc c) (chain id leaf i a b x) above ∙ ap (λ n. chain id leaf i a n x) all
    ]
