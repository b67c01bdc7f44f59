-- Whether a book has leaves for statements.
use Rattle.std.specs.Prelude.{ℕ, ◌+◌, ◌≤◌, nat_le, Bool, not, List, count_by, is_some}
use Rattle.ar_base.specs.Places.{place_of}
use Rattle.key_roll.specs.Book.{RollBook, texts_of}
use Rattle.key_roll.specs.Rolls.{plain_count}

-- how many of the texts the book does not hold
abbrev pub new_count : RollBook → List (List ℕ) → ℕ
new_count book texts = count_by (λ text. not (is_some (place_of (texts_of book) text))) texts

-- the newest generation has a leaf, beside its last, for each of these texts that the book does not hold
abbrev pub HasRoom : RollBook → List (List ℕ) → Type 0
HasRoom book texts = plain_count book.newest book.list + new_count book texts + 1 ≤ book.leaves

-- the same as a test
abbrev pub has_leaves : RollBook → List (List ℕ) → Bool
has_leaves book texts = nat_le (plain_count book.newest book.list + new_count book texts + 1) book.leaves
