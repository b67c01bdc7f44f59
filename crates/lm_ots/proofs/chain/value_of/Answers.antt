use Rattle.std.proofs.Common.{◌∙◌, arith, drop, length-drop, ℕ}
use Rattle.std.proofs.lemmas.List.{take_all}
use Rattle.lm_ots.proofs.chain.value_of.Goals as goal

-- the part from place 23 on is all that is left of the text
pub returns : goal.returns
returns c =
    let text = c.args.text.now in
    let whole = c.told-text in
    c.copy_from_slice.ensures.after ∙ take_all 32 (drop 23 text) (omega (arith, length-drop {A = ℕ}))
