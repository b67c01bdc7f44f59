-- A log that is kept is asked things again, one behind the other, until the disk fails.
use Rattle.std.specs.Prelude.{◌≡◌, ◌⊎◌, ℕ, ◌*◌, ◌+◌, ◌<◌, false, List, ◌++◌, length, take, Option}
use Rattle.ar_base.specs.Faults.{HasRisen}
use Rattle.kept_disk.specs.Fuel.{Fuel}
use Rattle.kept_journal.specs.Appending.{SpendsAll, WantsAll}
use Rattle.kept_journal.specs.Journal.{IsBeforeOrAfter, Stands}
use Rattle.kept_journal.specs.Replays.{ReachesBy}
use Rattle.log_journal.specs.Inputs.{mark}
use Rattle.log_journal.specs.Kept.{KeptParts}
use Rattle.log_journal.specs.Steps.{standing_of, takes}
use Rattle.log_restart.specs.Inputs.{record_cost, records_cost}

-- It took these texts, which stand in its journal behind those from before, and made four calls of the disk for each.
pub record Took {D : Type 0} (fuel : D → Option Fuel) (faults : D → ℕ) (old new : KeptParts D) (texts : List (List ℕ)) : Type 0 where
  pub going : new.journal.stopped ≡ false
  pub stand : new.journal.texts ≡ old.journal.texts ++ texts
  pub became : ReachesBy takes (standing_of old.log) texts (standing_of new.log)
  pub spent : SpendsAll (fuel old.journal.disk) (fuel new.journal.disk) (4 * length texts) (records_cost texts) (4 * length texts)
  pub uncounted : faults new.journal.disk ≡ faults old.journal.disk

-- It took all of them: so its file stands for them, as a read gives it and as the last sync kept it.
pub record TookAll {D : Type 0} (seen held : D → List ℕ) (fuel : D → Option Fuel) (faults : D → ℕ) (old new : KeptParts D) (texts : List (List ℕ)) : Type 0 where
  pub took : Took fuel faults old new texts
  pub whole : Stands mark (old.journal.texts ++ texts) (seen new.journal.disk)
  pub kept : Stands mark (old.journal.texts ++ texts) (held new.journal.disk)

-- The disk failed at this text: what the last sync kept stands for those from before, what a read gives for these or for this one too,
-- and there was too little fuel.
pub record Fails {D : Type 0} (seen held : D → List ℕ) (fuel : D → Option Fuel) (faults : D → ℕ) (old new : KeptParts D) (text : List ℕ) : Type 0 where
  pub kept : Stands mark old.journal.texts (held new.journal.disk)
  pub given : IsBeforeOrAfter mark old.journal.texts text (seen new.journal.disk)
  pub wanting : WantsAll (fuel old.journal.disk) 4 (record_cost text) 4
  pub risen : HasRisen (faults old.journal.disk) (faults new.journal.disk)

-- The disk failed at the text behind the first so many of them: what the last sync kept stands for these, what a read gives for these or
-- for one more, and there was too little fuel for that.
pub record FailedAt {D : Type 0} (seen held : D → List ℕ) (fuel : D → Option Fuel) (faults : D → ℕ) (old new : KeptParts D) (texts : List (List ℕ)) : Type 0 where
  pub many : ℕ
  pub some_left : many < length texts
  pub kept : Stands mark (old.journal.texts ++ take many texts) (held new.journal.disk)
  pub given : Stands mark (old.journal.texts ++ take many texts) (seen new.journal.disk) ⊎ Stands mark (old.journal.texts ++ take (many + 1) texts) (seen new.journal.disk)
  pub left : Option Fuel
  pub spent : SpendsAll (fuel old.journal.disk) left (4 * many) (records_cost (take many texts)) (4 * many)
  pub wanting : WantsAll (fuel old.journal.disk) (4 * (many + 1)) (records_cost (take (many + 1) texts)) (4 * (many + 1))
  pub risen : HasRisen (faults old.journal.disk) (faults new.journal.disk)
