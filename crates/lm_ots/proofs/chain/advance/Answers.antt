use Rattle.std.proofs.Common.{◌≡◌, ◌∙◌, ap, arith, ℕ, List, [], ◌∷◌, ◌++◌, length, take, drop, set, length-drop, length-take, length-append}
use Rattle.std.proofs.lemmas.List.{set_split, take_more_set, drop_all, append_assoc, append-nil, length-set, take_at, drop_at}
use borrow.Rule.Slice.PartMut.{put_mid}
use Rattle.sha2.specs.Sha256.{sha256}
use Rattle.lm_ots.proofs.chain.advance.Goals as goal

-- the text after the number of the step and the value were written
put_mid-set : (text value : List ℕ) (step : ℕ) → length text ≡ 55 → put_mid 23 32 (set text 22 step) value ≡ (take 22 text ++ step ∷ []) ++ value
put_mid-set text value step whole =
    let front = take_more_set text 22 step (omega arith) in
    let back = drop_all 32 (drop 23 (set text 22 step)) (omega (arith, length-drop {A = ℕ}, length-set {A = ℕ})) in
    rw (front, back, append-nil)

take-put_mid : (text value : List ℕ) (step : ℕ) → length text ≡ 55 → take 22 (put_mid 23 32 (set text 22 step) value) ≡ take 22 text
take-put_mid text value step whole =
    ap (take 22) (put_mid-set text value step whole ∙ append_assoc (take 22 text) (step ∷ []) value)
    ∙ take_at (take 22 text) (step ∷ value) 22 (omega (arith, length-take {A = ℕ}))

drop-put_mid : (text value : List ℕ) (step : ℕ) → length text ≡ 55 → drop 23 (put_mid 23 32 (set text 22 step) value) ≡ value
drop-put_mid text value step whole =
    ap (drop 23) (put_mid-set text value step whole)
    ∙ drop_at (take 22 text ++ step ∷ []) value 23 (omega (arith, length-take {A = ℕ}, length-append {A = ℕ}))

pub returns : goal.returns
returns c =
    let text = c.args.text.now in
    let step = c.args.step in
    let whole = c.told-text in
    let hashed = c.as_slice.ensures ∙ set_split text 22 step (omega arith) in
    record {
      head = take-put_mid text c.copy_from_slice.new.self step whole;
      value = drop-put_mid text c.copy_from_slice.new.self step whole
          ∙ (c.copy_from_slice.ensures.after ∙ (c.digest-next.ensures ∙ ap sha256 hashed));
    }
