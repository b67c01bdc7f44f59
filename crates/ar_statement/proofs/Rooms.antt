-- A text that grows in the front of a room of bytes.
use Rattle.std.proofs.Common.{◌≡◌, ℕ, ◌+◌, ◌-◌, ◌≤◌, List, ◌++◌, take, drop, sym, ap, ◌∙◌, arith}
use Rattle.std.proofs.lemmas.List.{drop-drop, take-append-drop}

-- what is the same behind a place is the same behind a later one
pub same_later : (r s : ℕ) (a b : List ℕ) → drop r a ≡ drop r b → r ≤ s → drop s a ≡ drop s b
same_later r s a b e le =
    let sum : r + (s - r) ≡ s = omega (arith, le) in
    sym (ap (λ n. drop n a) sum) ∙ sym (drop-drop (s - r) r a) ∙ ap (drop (s - r)) e ∙ drop-drop (s - r) r b ∙ ap (λ n. drop n b) sum

-- a text and what is behind it
pub text_then_rest : (old out text : List ℕ) (n : ℕ) → take n out ≡ text → drop n out ≡ drop n old → out ≡ text ++ drop n old
text_then_rest old out text n front behind =
    sym (take-append-drop n out) ∙ ap (λ l. l ++ drop n out) front ∙ ap (λ l. text ++ l) behind

pub ruleset rooms = (same_later, text_then_rest)
