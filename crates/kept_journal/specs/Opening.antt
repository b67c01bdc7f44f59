-- What it takes of a disk to open a file.
use Rattle.std.specs.Prelude.{ℕ, ◌+◌, ◌-◌, ◌==◌, nat_le, List, length, Option, if◌then◌else◌}
use Rattle.kept_disk.specs.Fuel.{Fuel}
use Rattle.kept_journal.specs.Appending.{SpendsAll, WantsAll}
use Rattle.kept_journal.specs.Journal.{mark_len, records, recovered}

-- how many calls, bytes and changes something takes
pub record Cost : Type 0 where
  pub calls : ℕ
  pub bytes : ℕ
  pub changes : ℕ

-- where fuel is told, it sufficed for that, and what is left is told
abbrev pub SpendsCost : Option Fuel → Option Fuel → Cost → Type 0
SpendsCost old new cost = SpendsAll old new cost.calls cost.bytes cost.changes

-- where fuel is told, it was too little for that
abbrev pub WantsCost : Option Fuel → Cost → Type 0
WantsCost old cost = WantsAll old cost.calls cost.bytes cost.changes

-- how many bytes stand behind the first gate of a journal that is not open
abbrev pub behind_gate : List ℕ → ℕ
behind_gate file = length file - (mark_len + length (records (recovered file)) + 1)

-- so many bytes are cut from the end, where there are any, and what is left is synced
abbrev pub cutting : ℕ → Cost
cutting bytes =
    if bytes == 0 then record { calls = 1; bytes = 0; changes = 1 } else record { calls = 2; bytes = bytes; changes = 2 }

-- a sync, the length and a read come before that
abbrev pub behind_reading : Cost → Cost
behind_reading cost = record { calls = 3 + cost.calls; bytes = cost.bytes; changes = 1 + cost.changes }

-- A file of at most 9 bytes is written anew, a mark and a gate, and synced; of a longer one the bytes are cut that stand behind
-- its first gate that is not open.
unfoldable pub opening : List ℕ → Cost
opening file = behind_reading (if nat_le (length file) 9 then record { calls = 2; bytes = 9; changes = 2 } else cutting (behind_gate file))
