-- What contracts see of the calls that changed a file in memory.
use Rattle.std.specs.Prelude.{ℕ, List}
use Rattle.kept_disk.specs.Memory.{Event}

-- the events, the newest first, and how many bytes and changes there is room for
pub record PastState : Type 0 where
  pub events : List Event
  pub room : ℕ
  pub changes : ℕ
