-- A journal on a disk in memory, whose calls fail on demand.
use Rattle.std.specs.Prelude.{ℕ, Some}
use Rattle.kept_disk.specs.Memory.{DiskState}
use Rattle.kept_journal.specs.Settled.{JournalParts}

-- so many calls of its disk more pass
abbrev pub with_fuse : JournalParts DiskState → ℕ → JournalParts DiskState
with_fuse j k = record j { disk = record j.disk { fuel = record j.disk.fuel { fuse = Some k } } }
