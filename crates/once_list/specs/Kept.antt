-- A list beside its room.
use Rattle.std.specs.Prelude.{ℕ, List}

-- the items in order, and for how many items more there is room
pub record Kept (T : Type 0) : Type 0 where
  pub items : List T
  pub room : ℕ
