-- What is told of a gate.
use Rattle.std.proofs.Common.{◌≡◌, ◌≢◌, ℕ, List, ◌++◌, take, drop, refl, sym, ◌∙◌, ap, Bool, true, false}
use Rattle.std.specs.Prelude.{IsTrue}
use Rattle.std.proofs.lemmas.List.{take-append-drop}
use Rattle.std.proofs.lemmas.Slice.Eq.{bytes_eq-Decides}
use Rattle.chained_journal.specs.Journal.{open_gate, opens}

pub opened : (bytes : List ℕ) → opens bytes ≡ true → bytes ≡ open_gate ++ drop 8 bytes
opened bytes is =
    sym (take-append-drop 8 bytes) ∙ ap (λ (l : List ℕ). l ++ drop 8 bytes) ((bytes_eq-Decides (take 8 bytes) open_gate).0 is)

never-true : (test : Bool) → (test ≡ true → ⊥) → test ≡ false
never-true true never = absurd (never refl)
never-true false never = refl

pub opens_told : (bytes : List ℕ) (test : Bool) → (IsTrue test → bytes ≡ open_gate ++ drop 8 bytes) → (test ≡ false → (rest : List ℕ) → bytes ≢ open_gate ++ rest)
    → test ≡ opens bytes
opens_told bytes true begins not = sym (ap opens (begins refl))
opens_told bytes false begins not = sym (never-true (opens bytes) (λ is. not refl (drop 8 bytes) (opened bytes is)))

-- where no gate is open
pub not_opens : (bytes : List ℕ) → ((rest : List ℕ) → bytes ≢ open_gate ++ rest) → opens bytes ≡ false
not_opens bytes not_open = never-true (opens bytes) (λ is. not_open (drop 8 bytes) (opened bytes is))
