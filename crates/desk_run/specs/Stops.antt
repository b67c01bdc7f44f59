-- What a party and its journal are where a run stops.
use Rattle.std.specs.Prelude.{◌≡◌, ◌≢◌, ℕ, List, ◌++◌, true, false}
use Rattle.kept_journal.specs.Journal.{Stands}
use Rattle.kept_party.specs.Parts.{WithJournal}
use Rattle.desk_run.specs.declared.stop.Stop.{Stop}
use Rattle.desk_run.specs.declared.stop.Stop.TheVariants.{Disk}

-- The party stands so, and its journal has these texts more, and goes on where it did. Where the disk failed the journal is stopped,
-- and where it was not before, its file stands for those texts. In any case it keeps its mark.
pub record HasDone {P K : Type 0} (held : K → List ℕ) (old new : WithJournal P K) (party : P) (more : List (List ℕ)) (stop : Stop) : Type 0 where
  pub reached : stop ≢ Disk → new.party ≡ party
  pub texts : stop ≢ Disk → new.journal.texts ≡ old.journal.texts ++ more
  pub runs : stop ≢ Disk → old.journal.stopped ≡ false → new.journal.stopped ≡ false
  pub stopped : stop ≡ Disk → new.journal.stopped ≡ true
  pub file : stop ≡ Disk → old.journal.stopped ≡ false → Stands old.journal.mark (old.journal.texts ++ more) (held new.journal.disk)
  pub mark : new.journal.mark ≡ old.journal.mark
