-- What contracts see of a file of the operating system, by the disk in memory that mirrors it.
use Rattle.std.specs.Prelude.{◌≡◌, ◌==◌, ℕ, List, [], Option, None, Some, if◌then◌else◌}
use Rattle.ar_base.specs.Faults.{one_more}
use Rattle.kept_disk.specs.Fuel.{Fuel}
use Rattle.kept_disk.specs.Memory.{Event}

-- The bytes that a read gives, the events since the file was opened, the newest first, and how many calls failed.
pub record FileState : Type 0 where
  pub seen : List ℕ
  pub events : List Event
  pub faults : ℕ

-- the file after a call that failed
abbrev pub after_fault : FileState → FileState
after_fault s = record s { faults = one_more s.faults }

-- Behind the first fault nothing passes any more. Before it, what passes is not told.
abbrev pub fuel_after : ℕ → Option Fuel
fuel_after faults = if faults == 0 then None else Some (record { fuse = Some 0; room = 0; changes = 0 })

-- nothing was done on it, and none of its calls failed
abbrev pub IsJustOpened : FileState → Type 0
IsJustOpened s = (s.events ≡ []) × (s.faults ≡ 0)
