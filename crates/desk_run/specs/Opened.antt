-- A party that is opened by the journal in a file and answers lines: what it comes to, and what a crash leaves of the file.
use Rattle.std.specs.Prelude.{◌≡◌, ◌≢◌, ℕ, List, length, Option, Result, Err, IfErr, OnOk, false}
use Rattle.ar_base.specs.Faults.{HasRisen}
use Rattle.desk_run.specs.Answers.{Kept, opening_text, sent_again}
use Rattle.desk_run.specs.Crashes.{LeavesFront}
use Rattle.desk_run.specs.Runs.{HasAnswered, HasOverrun, HasStopped}
use Rattle.desk_run.specs.declared.stop.Stop.{Stop}
use Rattle.desk_run.specs.declared.stop.Stop.TheVariants.{Count, Disk, Sink, Source}
use Rattle.kept_journal.specs.Journal.{Stands, recovered}
use Rattle.kept_journal.specs.Replays.{ReachesBy}
use Rattle.kept_party.specs.Parts.{WithJournal}
use Rattle.kept_party.specs.Taking.{Becomes, RepliesLast}
use Rattle.party_desk.specs.Asking.{Wanted}

-- how many faults a disk, a source and a sink have had
pub record Faults : Type 0 where
  pub disk : ℕ
  pub source : ℕ
  pub sink : ℕ

-- A run that ended so, with these faults before it and those behind it, stopped for a call that failed in it, or since more came than is
-- counted; and no other call failed. Want of memory has no other trace.
pub record HasCause (ended : Result (Unit {0}) Stop) (before after : Faults) (first last : Option (List ℕ)) : Type 0 where
  pub disk : ended ≡ Err Disk → HasRisen before.disk after.disk
  pub source : ended ≡ Err Source → HasRisen before.source after.source
  pub sink : ended ≡ Err Sink → HasRisen before.sink after.sink
  pub count : ended ≡ Err Count → HasOverrun first last
  pub no_disk : ended ≢ Err Disk → after.disk ≡ before.disk
  pub no_source : ended ≢ Err Source → after.source ≡ before.source
  pub no_sink : ended ≢ Err Sink → after.sink ≡ before.sink

-- over which texts lead from a party to another, by which reply
module _ {P Reply : Type 0} (takes : P → List ℕ → Reply → P → Type 0) where
  -- Under this mark the file stands for its texts. The opened party is what they make of this one, which had done nothing, and replied
  -- so to the last; its journal has them.
  pub record IsOpened {K : Type 0} (mark file : List ℕ) (new : P) (opened : WithJournal P K) (again : Option Reply) : Type 0 where
    pub stood : Stands mark (recovered file) file
    pub replays : ReachesBy (Becomes takes) new (recovered file) opened.party
    pub replied : RepliesLast takes new (recovered file) again opened.party
    pub texts : opened.journal.texts ≡ recovered file
    pub marked : opened.journal.mark ≡ mark
    pub runs : opened.journal.stopped ≡ false

  -- over a way to answer a line too, what a reply sends, and what a sink wrote
  module _ {K W : Type 0} (answers : P → ℕ → List ℕ → List ℕ → Kept → P → Type 0) (sent_text : Reply → List ℕ) (wrote : W → List ℕ → Type 0) (held : K → List ℕ) where
    -- A new party was opened by a file under a mark. Then it answered the lines of a source up to its end, or stopped before; what it
    -- had replied last, and how many texts the file has, was written at first.
    pub record HasRun (mark file : List ℕ) (new : P) (kept : WithJournal P K) (ended : Result (Unit {0}) Stop) (first last : Option (List ℕ)) (before after : W) : Type 0 where
      pub opened : WithJournal P K
      pub again : Option Reply
      pub is : IsOpened mark file new opened again
      pub answered : OnOk ended (HasAnswered answers wrote opened kept first last before after (opening_text (sent_again sent_text again) (length (recovered file))))
      pub stopped : IfErr ended (HasStopped answers wrote held opened kept first last before after (opening_text (sent_again sent_text again) (length (recovered file))))

  -- over a way to answer a line too, what a line asks, and by which text the party takes an order
  module _ {Order : Type 0} (answers : P → ℕ → List ℕ → List ℕ → Kept → P → Type 0) (asked : P → List ℕ → Wanted Order) (says : P → Order → List ℕ → Type 0) where
    -- The party that a file made of a new one answered a front of the lines of a source, and what is left stands for the texts of the
    -- file and those of that front, perhaps with the text of the next line.
    pub record LeavesRun (mark file : List ℕ) (new : P) (first last : Option (List ℕ)) (left : List ℕ) : Type 0 where
      pub opened : P
      pub replays : ReachesBy (Becomes takes) new (recovered file) opened
      pub front : LeavesFront asked says takes answers opened first last mark (recovered file) left
