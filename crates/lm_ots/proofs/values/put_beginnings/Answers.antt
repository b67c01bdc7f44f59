use Rattle.std.proofs.Common.{◌≡◌, ◌∙◌, ap, sym, inl, inr, arith, ℕ, ◌+◌, ◌-◌, ◌*◌, [], slice_index_or}
use Rattle.std.proofs.lemmas.Bool.{cases_lt}
use Rattle.lm_ots.specs.Signing.{secret_element}
use Rattle.lm_ots.proofs.values.put_beginnings.Goals as goal

pub loop-group-preserved : goal.loop-group-preserved
loop-group-preserved c =
    let first = 4 * c.loop-group.group in
    let secret = c.args.secret.now in
    λ i below.
    elim (cases_lt i first) [
      | inl before ↦ c.put_four.ensures.front i before ∙ c.loop-group.invariant i before
      | inr behind ↦
          let place : first + (i - first) ≡ i = omega arith in
          let inside = λ (n : ℕ). slice_index_or c.put_four.new.values n [] in
          ap inside (sym place)
          ∙ c.put_four.ensures.four (i - first) (omega arith)
          ∙ c.four_beginnings.ensures (i - first) (omega arith)
          ∙ ap (secret_element secret) place
    ]
