-- Books that grow.
use Rattle.std.specs.Prelude.{◌≡◌, ◌≤◌}
use Rattle.ar_base.specs.Prefixes.{BeginsWith}
use Rattle.key_roll.specs.Book.{RollBook}
use Rattle.key_roll.specs.Due.{DueParts}
use Rattle.key_roll.specs.Entry.{LeafServes}

-- A later book of the same keys: they have as many leaves, no generation went away, and it begins with the statements of
-- the earlier one.
pub record IsLaterBook (book later : RollBook) : Type 0 where
  pub leaves : later.leaves ≡ book.leaves
  pub newest : book.newest ≤ later.newest
  pub list : BeginsWith later.list book.list

-- the leaf of what is due serves its text, of keys with as many leaves as the book says
pub record IsServed (book : RollBook) (due : DueParts) : Type 0 where
  pub serves : LeafServes book due.generation due.leaf due.text
  pub leaves : due.leaves ≡ book.leaves
