-- What two calls of a sink wrote together.
use Rattle.std.proofs.Common.{◌≡◌, ℕ, ◌-◌, List, ◌++◌, length, take, drop, ap, sym, ◌∙◌, append_assoc, take-append-drop}
use Rattle.std.proofs.lemmas.List.{take_rest}
use Rattle.ar_io.specs.Wrote.{Appended}

-- what is written in two calls is one list behind the other
pub Appended-trans : {T : Type 0} (wrote : T → List ℕ → Type 0) (a b c : T) (first second : List ℕ)
    → Appended wrote a b first → Appended wrote b c second → Appended wrote a c (first ++ second)
Appended-trans wrote a b c first second p q before h =
    rw (← append_assoc before first second) (q (before ++ first) (p before h))

-- a front of the piece was written, and then the first n bytes of the rest
pub Appended-more : {T : Type 0} (wrote : T → List ℕ → Type 0) (a b c : T) (piece rest : List ℕ) (n : ℕ)
    → ((front : List ℕ) × (piece ≡ front ++ rest) × Appended wrote a b front) → Appended wrote b c (take n rest)
    → (front : List ℕ) × (piece ≡ front ++ take (length rest - n) (drop n rest)) × Appended wrote a c front
Appended-more wrote a b c piece rest n p q = (
  p.0 ++ take n rest,
  p.1 ∙ ap (λ xs. p.0 ++ xs) (sym (take-append-drop n rest) ∙ ap (λ xs. take n rest ++ xs) (sym (take_rest rest n))) ∙ sym (append_assoc p.0 (take n rest) _),
  Appended-trans wrote a b c p.0 (take n rest) p.2 q,
)
