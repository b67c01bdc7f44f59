-- The book of a party's keys: the statements that the leaves of each generation serve.
use Rattle.std.specs.Prelude.{◌≡◌, ◌+◌, ◌<◌, ◌≤◌, ℕ, true, List, [], map, All}
use Rattle.ar_base.specs.Places.{HasNoneTwice}
use Rattle.key_roll.specs.declared.signed.SignedText.{SignedText}
use Rattle.key_roll.specs.Rolls.{is_roll, named_generation, plain_count, roll_count}

-- How many leaves each key has, the newest generation, and the generation and text of each statement in
-- the order of entry.
pub record RollBook : Type 0 where
  pub leaves : ℕ
  pub newest : ℕ
  pub list : List SignedText

-- the book of keys with so many leaves each, before the first statement
abbrev pub empty_book : ℕ → RollBook
empty_book leaves = record { leaves = leaves; newest = 0; list = [] }

-- a book beside the number of statements more for which there is room
pub record Kept : Type 0 where
  pub book : RollBook
  pub room : ℕ

abbrev pub texts_of : RollBook → List (List ℕ)
texts_of book = map (λ s. s.text) book.list

-- the last generation
abbrev pub last_generation : ℕ
last_generation = 999

-- What is true of each book. No text stands twice, and none is of a later generation than the newest.
-- Each generation has a leaf left beside those of its statements; each but the newest has one Roll,
-- which names it, and the newest has none.
pub record IsRollBook (book : RollBook) : Type 0 where
  pub once : HasNoneTwice (texts_of book)
  pub upto : All (λ s. s.generation ≤ book.newest) book.list
  pub within : (g : ℕ) → plain_count g book.list + 1 ≤ book.leaves
  pub rolled : (g : ℕ) → g < book.newest → roll_count g book.list ≡ 1
  pub unrolled : (g : ℕ) → book.newest ≤ g → roll_count g book.list ≡ 0
  pub named : All (λ s. is_roll s.text ≡ true → named_generation s.text ≡ s.generation) book.list
  pub last : book.newest ≤ last_generation
