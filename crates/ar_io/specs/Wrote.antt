-- What a call did to the bytes that a sink wrote, where `wrote` says which lists of bytes it may have
-- written.
use Rattle.std.specs.Prelude.{◌≡◌, ◌<◌, ℕ, List, ◌++◌, length}

-- the sink wrote these bytes after all that it had written
abbrev pub Appended : {T : Type 0} → (T → List ℕ → Type 0) → T → T → List ℕ → Type 0
Appended wrote old new bytes = (before : List ℕ) → wrote old before → wrote new (before ++ bytes)

-- the sink wrote nothing
abbrev pub Unchanged : {T : Type 0} → (T → List ℕ → Type 0) → T → T → Type 0
Unchanged wrote old new = (before : List ℕ) → wrote old before → wrote new before

-- the sink wrote a front of these bytes, and not all of them
abbrev pub AppendedFront : {T : Type 0} → (T → List ℕ → Type 0) → T → T → List ℕ → Type 0
AppendedFront wrote old new bytes =
    (front : List ℕ) × ((rest : List ℕ) × (bytes ≡ front ++ rest) × (0 < length rest) × Appended wrote old new front)
