-- What is signed for a challenge is the text of nothing else.
use Rattle.std.proofs.Common.{◌≡◌, ℕ, List, [], ◌++◌, ap}
use Rattle.ar_statement.specs.Claims.{answer, handover}
use Rattle.ar_statement.specs.Ranges.{IsHeld}
use Rattle.ar_statement.proofs.OneText.{one_text}
use Rattle.possession.specs.Answering.{answer_text, handover_text}

pub one_answer : (name other_name certificate other_certificate challenge other : List ℕ) → IsHeld (answer name certificate challenge) → IsHeld (answer other_name other_certificate other) → answer_text name certificate challenge ≡ answer_text other_name other_certificate other → (name ≡ other_name) × (certificate ≡ other_certificate) × (challenge ≡ other)
unfolding answer_text
one_answer name other_name certificate other_certificate challenge other held held_other h =
    let same = (one_text (answer name certificate challenge) (answer other_name other_certificate other) [] [] held held_other (ap (λ text. text ++ []) h)).0 in
    (cc, cc, cc)

pub no_handover : (name certificate challenge digest : List ℕ) → IsHeld (answer name certificate challenge) → IsHeld (handover digest) → answer_text name certificate challenge ≡ handover_text digest → ⊥
unfolding answer_text handover_text
no_handover name certificate challenge digest held held_other h =
    let same = (one_text (answer name certificate challenge) (handover digest) [] [] held held_other (ap (λ text. text ++ []) h)).0 in
    cc
