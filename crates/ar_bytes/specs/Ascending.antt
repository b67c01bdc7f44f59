-- Lists of entries whose numbers ascend strictly, behind a count that was read before them.
use Rattle.std.specs.Prelude.{ℕ, zero, suc, ◌+◌, ◌≤◌, ◌^◌, ◌<◌, nat_le, nat_lt, Bool, true, ◌&&◌, List, [], ◌∷◌, ◌++◌, Ok}
use Rattle.std.specs.List.{flat_map}
use Rattle.std.specs.Int.{w16}
use Rattle.ar_base.specs.Chaining.{◌>>=◌}
use Rattle.ar_bytes.specs.Reading.{Cursor, Reading, number_at, such_that}
use Rattle.ar_bytes.specs.RoundTrip.{number_text}

-- So many entries with strictly ascending numbers. `entry least` reads one whose number is not below
-- `least`, and fails at a number that is.
unfoldable pub ascending_at : {A : Type 0} → (A → ℕ) → (ℕ → Cursor → Reading A) → ℕ → ℕ → Cursor → Reading (List A)
ascending_at number entry zero least at = Ok ([], at)
ascending_at number entry (suc count) least at = do
  first ← entry least at
  rest ← ascending_at number entry count (number first.0 + 1) first.1
  Ok (first.0 ∷ rest.0, rest.1)

-- a number of two bytes that is not below `least`
unfoldable pub number_from : ℕ → Cursor → Reading ℕ
number_from least at = such_that (nat_le least) (number_at w16) at

-- so many numbers of two bytes that ascend strictly, and are not below `least`
abbrev pub numbers_at : ℕ → ℕ → Cursor → Reading (List ℕ)
numbers_at = ascending_at (λ n. n) number_from

-- the text of numbers, two bytes for each
abbrev pub numbers_text : List ℕ → List ℕ
numbers_text ns = flat_map (number_text w16) ns

-- whether numbers ascend strictly
abbrev pub ascends : List ℕ → Bool
ascends [] = true
ascends (n ∷ []) = true
ascends (n ∷ next ∷ more) = nat_lt n next && ascends (next ∷ more)

-- the entries' numbers ascend strictly, none is below `least`, and each entry is one that fits
abbrev pub Ascend : {A : Type 0} → (A → ℕ) → (A → Type 0) → ℕ → List A → Type 0
Ascend number fits least [] = Unit {0}
Ascend number fits least (x ∷ xs) = (least ≤ number x) × fits x × Ascend number fits (number x + 1) xs

-- numbers of two bytes that ascend strictly
abbrev pub AreNumbers : List ℕ → Type 0
AreNumbers = Ascend (λ n. n) (λ n. n < 2 ^ 16) 0

-- what is read behind the entries in front
abbrev pub with_front : {A : Type 0} → List A → Reading (List A) → Reading (List A)
with_front front read = read >>= λ x. Ok (front ++ x.0, x.1)
