-- The lines of an input that comes piece by piece: each ends with a newline.
use Rattle.std.specs.Prelude.{◌≡◌, ◌==◌, ℕ, List, [], ◌∷◌, ◌++◌, All, false}

-- no newline stands in it
abbrev pub IsUncut : List ℕ → Type 0
IsUncut text = All (λ byte. (byte == 10) ≡ false) text

-- a text is this line, with its newline, and what stands behind it
abbrev pub CutsAt : List ℕ → List ℕ → List ℕ → Type 0
CutsAt text line behind = (text ≡ line ++ 10 ∷ behind) × IsUncut line

-- An input begins with these whole lines, and this is what stands behind them.
abbrev pub HasLines : List ℕ → List (List ℕ) → List ℕ → Type 0
HasLines input [] behind = input ≡ behind
HasLines input (line ∷ lines) behind = (rest : List ℕ) × (CutsAt input line rest × HasLines rest lines behind)
