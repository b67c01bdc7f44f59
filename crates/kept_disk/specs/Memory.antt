-- A disk in memory: its file, the calls that changed it, and what a crash may leave of it. Each call is kept with the bytes that
-- undo it.
use Rattle.std.specs.Prelude.{◌≡◌, ◌⊎◌, ℕ, ◌+◌, ◌≤◌, List, [], ◌∷◌, ◌++◌, length, take, drop, None, Result, Ok, Err}
use Rattle.ar_base.specs.Faults.{one_more}
use Rattle.kept_disk.specs.Disk.{Cut, Torn}
use Rattle.kept_disk.specs.Fuel.{Fuel, Lacks, Suffices, spent}
use Rattle.kept_disk.specs.declared.past.DiskChange.{DiskChange}
use Rattle.kept_disk.specs.declared.past.DiskChange.TheVariants as changes

-- a call that changed the file, or synced it, and the bytes over which it wrote or that it took away
abbrev pub Event : Type 0
Event = DiskChange × List ℕ

-- how many bytes those are
abbrev pub over_of : DiskChange → ℕ
over_of (changes.Wrote at count over) = over
over_of (changes.Cut taken) = taken
over_of changes.Synced = 0

-- each of these changes with its bytes, which stand one behind the other
abbrev pub with_bytes : List DiskChange → List ℕ → List Event
with_bytes [] bytes = []
with_bytes (c ∷ cs) bytes = (c, take (over_of c) bytes) ∷ with_bytes cs (drop (over_of c) bytes)

-- how many bytes these changes have together
abbrev pub over_in : List DiskChange → ℕ
over_in [] = 0
over_in (c ∷ cs) = over_of c + over_in cs

-- the file before its last event
abbrev pub undone : List ℕ → Event → List ℕ
undone file (changes.Wrote at count over, bytes) = take at file ++ (bytes ++ drop (at + count) file)
undone file (changes.Cut taken, bytes) = file ++ bytes
undone file (changes.Synced, bytes) = file

-- the file at its last sync, by its events, the newest first; with none it is the file at the beginning
abbrev pub synced : List ℕ → List Event → List ℕ
synced file [] = file
synced file ((changes.Synced, bytes) ∷ es) = file
synced file ((changes.Wrote at count over, bytes) ∷ es) = synced (undone file (changes.Wrote at count over, bytes)) es
synced file ((changes.Cut taken, bytes) ∷ es) = synced (undone file (changes.Cut taken, bytes)) es

-- what a crash behind these events may leave of the file, the newest first
abbrev pub MayLeave : List ℕ → List Event → List ℕ → Type 0
MayLeave file [] c = c ≡ file
MayLeave file ((changes.Synced, bytes) ∷ es) c = c ≡ file
MayLeave file ((changes.Wrote at count over, bytes) ∷ es) c =
    (c ≡ file) ⊎ ((d : List ℕ) × MayLeave (undone file (changes.Wrote at count over, bytes)) es d × Torn at count d c)
MayLeave file ((changes.Cut taken, bytes) ∷ es) c =
    (c ≡ file) ⊎ ((d : List ℕ) × MayLeave (undone file (changes.Cut taken, bytes)) es d × Cut (length file) d c)

-- what a crash might have left behind some of these events, of which there were so many or more
abbrev pub LeftSince : List ℕ → List Event → ℕ → List ℕ → Type 0
LeftSince file [] t c = c ≡ file
LeftSince file (e ∷ es) t c = MayLeave file (e ∷ es) c ⊎ ((t ≤ length es) × LeftSince (undone file e) es t c)

-- What contracts see of a disk in memory: its bytes, its events, the newest first, what it still does, and its faults.
pub record DiskState : Type 0 where
  pub seen : List ℕ
  pub events : List Event
  pub fuel : Fuel
  pub faults : ℕ

-- a disk that has these bytes, and on which nothing was done; it has no room
abbrev pub fresh_disk : List ℕ → DiskState
fresh_disk bytes = record { seen = bytes; events = []; fuel = record { fuse = None; room = 0; changes = 0 }; faults = 0 }

-- the disk after a call that changed nothing
abbrev pub after_look : DiskState → DiskState
after_look s = record s { fuel = spent s.fuel 0 0 }

-- the bytes over which these are written at this place
abbrev pub over_at : List ℕ → ℕ → ℕ → List ℕ
over_at file at count = take count (drop at file)

-- the disk after these bytes are written at this place
abbrev pub after_write : DiskState → ℕ → List ℕ → DiskState
after_write s at bytes = record s {
  seen = take at s.seen ++ (bytes ++ drop (at + length bytes) s.seen);
  events = (changes.Wrote at (length bytes) (length (over_at s.seen at (length bytes))), over_at s.seen at (length bytes)) ∷ s.events;
  fuel = spent s.fuel (length bytes) 1;
}

-- the disk after it was cut to this length
abbrev pub after_cut : DiskState → ℕ → DiskState
after_cut s len = record s {
  seen = take len s.seen;
  events = (changes.Cut (length (drop len s.seen)), drop len s.seen) ∷ s.events;
  fuel = spent s.fuel (length (drop len s.seen)) 1;
}

-- the disk after a sync
abbrev pub after_sync : DiskState → DiskState
after_sync s = record s { events = (changes.Synced, []) ∷ s.events; fuel = spent s.fuel 0 1 }

-- the disk after a call that failed: a fault more
abbrev pub after_failure : DiskState → DiskState
after_failure s = record s { faults = one_more s.faults }

-- A call that takes room for these bytes and changes did what it does, or failed for want of fuel.
abbrev pub Becomes : {A E : Type 0} → Result A E → DiskState → DiskState → DiskState → ℕ → ℕ → Type 0
Becomes (Ok _) old done new bytes changes = Suffices old.fuel bytes changes × (new ≡ done)
Becomes (Err _) old done new bytes changes = Lacks old.fuel bytes changes × (new ≡ after_failure old)
