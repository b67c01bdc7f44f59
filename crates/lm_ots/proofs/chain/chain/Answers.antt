use Rattle.std.proofs.Common.{◌≡◌, ◌∙◌, refl, inl, inr, ◌<◌, ap, sym, arith, ℕ, ◌+◌, ◌≤◌, List, [], ◌∷◌, ◌++◌, length, take, drop, length-append}
use Rattle.std.proofs.lemmas.List.{append_assoc, take_at, drop_at}
use Rattle.std.proofs.lemmas.Bool.{cases_lt}
use Rattle.std.specs.Int.{w16, w32, to_be_bytes}
use Rattle.sha2.specs.Sha256.{sha256}
use Rattle.lm_ots.specs.Chain.{chain, step_text}
use Rattle.lm_ots.proofs.ChainLemmas.{chain-none, chain-more}
use Rattle.lm_ots.proofs.chain.chain.Goals as goal

-- what stands before the number of the step
abbrev head_of : List ℕ → ℕ → ℕ → List ℕ
head_of id leaf i = id ++ (to_be_bytes w32 leaf ++ to_be_bytes w16 i)

step_text-split : (id : List ℕ) (leaf i j : ℕ) (value : List ℕ) → step_text id leaf i j value ≡ head_of id leaf i ++ j ∷ value
step_text-split id leaf i j value = sym (append_assoc id (to_be_bytes w32 leaf ++ to_be_bytes w16 i) (j ∷ value))

take-step_text : (id : List ℕ) (leaf i j : ℕ) (value : List ℕ) → length id ≡ 16 → take 22 (step_text id leaf i j value) ≡ head_of id leaf i
take-step_text id leaf i j value width =
    ap (take 22) (step_text-split id leaf i j value)
    ∙ take_at (head_of id leaf i) (j ∷ value) 22 (omega (arith, length-append {A = ℕ}))

drop-step_text : (id : List ℕ) (leaf i j : ℕ) (value : List ℕ) → length id ≡ 16 → drop 23 (step_text id leaf i j value) ≡ value
drop-step_text id leaf i j value width =
    ap (drop 23) (step_text-split id leaf i j value ∙ sym (append_assoc (head_of id leaf i) (j ∷ []) value))
    ∙ drop_at (head_of id leaf i ++ j ∷ []) value 23 (omega (arith, length-append {A = ℕ}))

-- one step more, from a text with this head and this value
chain-step : (id : List ℕ) (leaf i a b : ℕ) (x head value : List ℕ) → head ≡ head_of id leaf i → value ≡ chain id leaf i a b x → a ≤ b → sha256 (head ++ b ∷ value) ≡ chain id leaf i a (b + 1) x
chain-step id leaf i a b x head value e h below =
    ap (λ front. sha256 (front ++ b ∷ value)) e
    ∙ ap (λ v. sha256 (head_of id leaf i ++ b ∷ v)) h
    ∙ ap sha256 (sym (step_text-split id leaf i b (chain id leaf i a b x)))
    ∙ sym (chain-more id leaf i a b (b + 1) x (omega arith) below)

pub loop-step-init : goal.loop-step-init
loop-step-init c =
    let id = c.args.id.now in
    let width = c.told-id in
    record {
      head = ap (take 22) c.step_text-text.ensures ∙ take-step_text id c.args.leaf c.args.index c.args.from c.args.value.now width;
      value = ap (drop 23) c.step_text-text.ensures ∙ drop-step_text id c.args.leaf c.args.index c.args.from c.args.value.now width
          ∙ sym (chain-none id c.args.leaf c.args.index c.args.from c.args.from c.args.value.now (omega arith));
      still = λ short. refl;
    }

pub loop-step-preserved : goal.loop-step-preserved
loop-step-preserved c =
    let kept = c.loop-step.invariant in
    record {
      head = c.advance.ensures.head ∙ kept.head;
      value = c.advance.ensures.value
          ∙ chain-step c.args.id.now c.args.leaf c.args.index c.args.from c.loop-step.step c.args.value.now _ _ kept.head kept.value (omega arith);
      still = λ short. absurd (omega arith);
    }

-- the loop ends at the last step, or at the first where there is none
chain-end : (id : List ℕ) (leaf i a b step : ℕ) (x : List ℕ) → a ≤ step → b ≤ step → (a ≤ b → step ≤ b) → (b < a → step ≡ a) → chain id leaf i a step x ≡ chain id leaf i a b x
chain-end id leaf i a b step x low past near still =
    elim (cases_lt b a) [
      | inl h ↦ chain-none id leaf i a step x (omega (arith, still h)) ∙ sym (chain-none id leaf i a b x (omega arith))
      | inr h ↦ let at_end : step ≡ b = omega (arith, near h) in ap (λ n. chain id leaf i a n x) at_end
    ]

pub returns : goal.returns
returns c =
    let loop = c.loop-step in
    c.value_of.ensures ∙ (loop.invariant.value
    ∙ chain-end c.args.id.now c.args.leaf c.args.index c.args.from c.args.to loop.step c.args.value.now
    loop.auto.step c.loop-step-test.false loop.auto.step-end loop.invariant.still)
