-- A signature that is due.
use Rattle.std.specs.Prelude.{ℕ, List}

-- The leaf that a book gave to a statement, the statement's text, and how many leaves the book has.
pub record LeafDueParts : Type 0 where
  pub leaf : ℕ
  pub text : List ℕ
  pub leaves : ℕ
