-- What comes of a log whose disk fails, and which is opened again.
use Rattle.std.specs.Prelude.{◌≡◌, ◌↔◌, ◌⊎◌, ℕ, ◌*◌, ◌+◌, ◌/◌, ◌<◌, ◌≤◌, false, min, List, length, take, None}
use Rattle.kept_disk.specs.Memory.{DiskState, synced}
use Rattle.kept_journal.specs.Journal.{Stands}
use Rattle.kept_journal.specs.Replays.{ReachesBy}
use Rattle.key_roll.specs.Book.{RollBook}
use Rattle.log_journal.specs.Inputs.{mark}
use Rattle.log_journal.specs.Kept.{KeptParts}
use Rattle.log_journal.specs.Steps.{LogStanding, new_standing, standing_of, takes}
use Rattle.log_restart.specs.Books.{book_digest}
use Rattle.log_restart.specs.declared.beginning.Beginning.{Beginning}
use Rattle.log_restart.specs.declared.told.RestartReport.{RestartReport}

-- the log with this number that has done nothing yet
abbrev pub new_log_of : ℕ → Beginning → LogStanding
new_log_of number beginning = new_standing number beginning.directory beginning.key

-- how many of so many inputs stand in the file, where so many calls of the disk pass behind its opening: each takes four
abbrev pub recovered_of : ℕ → ℕ → ℕ
recovered_of many calls = min many (calls / 4)

-- what is told of it: how many of so many inputs were recovered, and how many statements the log has signed in the end, with their
-- digest
abbrev pub told_of : ℕ → ℕ → RollBook → RestartReport
told_of recovered many book = record {
  recovered = recovered;
  inputs = many;
  signed = length book.list;
  digest = book_digest book;
}

-- a file stands for the first so many of these texts, or for one more of them
abbrev pub StandsNext : ℕ → List (List ℕ) → List ℕ → Type 0
StandsNext many texts file = Stands mark (take many texts) file ⊎ Stands mark (take (many + 1) texts) file

-- The disk on which the log ran first, until it failed or the texts ended: what a crash leaves that takes all away which was not
-- synced stands for the first of them, what one leaves that takes nothing away for these or for one more, and a call failed exactly
-- where so many calls are too few for all.
pub record RanFirst (texts : List (List ℕ)) (calls : ℕ) (before : DiskState) : Type 0 where
  pub lost : Stands mark (take (recovered_of (length texts) calls) texts) (synced before.seen before.events)
  pub kept : StandsNext (recovered_of (length texts) calls) texts before.seen
  pub failed : (0 < before.faults) ↔ (calls < 4 * length texts)

-- The two disks of a restart: the one of the first run, and that of the second, which began with what a crash leaves of the first.
-- What a read gives of the second stands for all texts in the end, and so does what a crash leaves of it that takes all away which
-- was not synced.
pub record AreRestarted (texts : List (List ℕ)) (calls : ℕ) (before after : DiskState) : Type 0 where
  pub first : RanFirst texts calls before
  pub second : Stands mark texts after.seen
  pub lasts : Stands mark texts (synced after.seen after.events)

-- The texts that were recovered from what the first run left were taken again, and then the others: so much is told of the log in
-- the end, and its file stands for all texts, as a read gives it and as the last sync kept it.
pub record RanAgain (texts : List (List ℕ)) (recovered : ℕ) (book : RollBook) (told : RestartReport) (after : DiskState) : Type 0 where
  pub tells : told ≡ told_of recovered (length texts) book
  pub stands : Stands mark texts after.seen
  pub lasts : Stands mark texts (synced after.seen after.events)

-- A log was opened on a disk in memory that had room for so many bytes and changes beside what opening it takes; its calls all
-- pass.
pub record IsOpened (new : LogStanding) (texts : List (List ℕ)) (bytes calls : ℕ) (disk : DiskState) (kept : KeptParts DiskState) : Type 0 where
  pub going : kept.journal.stopped ≡ false
  pub stand : kept.journal.texts ≡ texts
  pub counts : kept.journal.count ≡ length texts
  pub became : ReachesBy takes new texts (standing_of kept.log)
  pub unlimited : kept.journal.disk.fuel.fuse ≡ None
  pub room : bytes ≤ kept.journal.disk.fuel.room
  pub changes : calls ≤ kept.journal.disk.fuel.changes
  pub uncounted : kept.journal.disk.faults ≡ disk.faults
