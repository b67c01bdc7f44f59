-- Leaves of a key that no book gives to statements: each is drawn once.
use Rattle.std.specs.Prelude.{ℕ, ◌+◌, nat_lt, if◌then◌else◌, Option, Some, None}

-- the next leaf that is drawn, the first that is not the run's, and how many leaves the key has
pub record RunParts : Type 0 where
  pub next : ℕ
  pub end : ℕ
  pub leaves : ℕ

-- a leaf that was drawn, and how many leaves the key has
pub record DrawnParts : Type 0 where
  pub leaf : ℕ
  pub leaves : ℕ

-- the leaf that is drawn: none where each was
abbrev pub drawn : RunParts → Option DrawnParts
drawn run = if nat_lt run.next run.end then Some (record { leaf = run.next; leaves = run.leaves }) else None

-- what is left behind it
abbrev pub after_draw : RunParts → RunParts
after_draw run = if nat_lt run.next run.end then record run { next = run.next + 1 } else run
