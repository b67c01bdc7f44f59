-- A signature that is due.
use Rattle.std.specs.Prelude.{ℕ, List}

-- The generation and the leaf of a statement, its text, and how many leaves the book's keys have.
pub record DueParts : Type 0 where
  pub generation : ℕ
  pub leaf : ℕ
  pub text : List ℕ
  pub leaves : ℕ
