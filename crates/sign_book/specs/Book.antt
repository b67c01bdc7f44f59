-- The book of a key: the statements that its leaves serve, in the order of their leaves.
use Rattle.std.specs.Prelude.{◌≤◌, ℕ, List, length}
use Rattle.ar_base.specs.Places.{HasNoneTwice}

-- The texts of the statements that have a leaf: the text at place k, from 0, has leaf k. Beside them how
-- many leaves the key has, and for how many more texts there is room.
pub record Book : Type 0 where
  pub texts : List (List ℕ)
  pub leaves : ℕ
  pub room : ℕ

-- what is true of each book: no text stands twice, and none stands past the last leaf
pub record IsSignBook (book : Book) : Type 0 where
  pub once : HasNoneTwice book.texts
  pub within : length book.texts ≤ book.leaves
