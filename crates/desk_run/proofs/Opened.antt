-- A run that begins with the opening of a file.
use Rattle.std.proofs.Common.{◌⊎◌, inl, inr, ℕ, List, [], Ok, Err, refl, sym, subst, ⊎_elim}
use Rattle.std.specs.Prelude.{Option, Result, IfErr, OnOk}
use Rattle.std.specs.Io.KnownBytes.{Consumes}
use Rattle.std.proofs.lemmas.List.{append-nil}
use Rattle.kept_disk.specs.Disk.{Only}
use Rattle.kept_disk.specs.Moments.{LeavesOnly}
use Rattle.kept_journal.proofs.Moments.{then_only, weaker}
use Rattle.kept_journal.specs.Journal.{IsAsBefore, Stands, recovered}
use Rattle.kept_journal.specs.Replays.{ReachesBy}
use Rattle.kept_party.specs.Parts.{WithJournal}
use Rattle.kept_party.specs.Taking.{Becomes}
use Rattle.desk_run.specs.Answers.{Kept}
use Rattle.desk_run.specs.Crashes.{LeavesFront}
use Rattle.desk_run.specs.Opened.{IsOpened, LeavesRun}
use Rattle.desk_run.specs.Runs.{HasAnswered, HasStopped}
use Rattle.desk_run.specs.declared.stop.Stop.{Stop}
use Rattle.party_desk.specs.Asking.{Wanted}

module _ {P K W : Type 0} (answers : P → ℕ → List ℕ → List ℕ → Kept → P → Type 0) (wrote : W → List ℕ → Type 0) (held : K → List ℕ) where
  -- something came of the source, wherever the run ended
  pub has_come : (old new : WithJournal P K) (ended : Result (Unit {0}) Stop) (first last : Option (List ℕ)) (before after : W) (opening : List ℕ)
      → OnOk ended (HasAnswered answers wrote old new first last before after opening) → IfErr ended (HasStopped answers wrote held old new first last before after opening)
      → (input : List ℕ) × Consumes first last input
  has_come old new (Ok u) first last before after opening answered stopped = (answered.input, answered.came)
  has_come old new (Err stop) first last before after opening answered stopped = (stopped.input, stopped.came)

module _ {P Order Reply : Type 0} (takes : P → List ℕ → Reply → P → Type 0) (answers : P → ℕ → List ℕ → List ℕ → Kept → P → Type 0)
    (asked : P → List ℕ → Wanted Order) (says : P → Order → List ℕ → Type 0) where
  -- before the first line
  texts_alone : (mark file : List ℕ) (new opened : P) (first last : Option (List ℕ)) (input left : List ℕ) → Consumes first last input
      → ReachesBy (Becomes takes) new (recovered file) opened → Stands mark (recovered file) left → LeavesRun takes answers asked says mark file new first last left
  texts_alone mark file new opened first last input left came replays stands = record {
    opened = opened;
    replays = replays;
    front = record {
      input = input;
      came = came;
      behind = input;
      written = [];
      more = [];
      mid = opened;
      front = record { lines = []; has = refl; answered = (refl, (refl, refl)) };
      left = inl (subst (λ ts. Stands mark ts left) (sym (append-nil (recovered file))) stands);
    };
  }

  module _ {K : Type 0} (moment : K → ℕ) (left_since : K → ℕ → List ℕ → Type 0) (may_leave : K → List ℕ → Type 0) where
    -- what a crash leaves, from the opening on
    pub run_left : (mark file seen : List ℕ) (new : P) (opened : WithJournal P K) (again : Option Reply) (disk later : K) (first last : Option (List ℕ)) (input : List ℕ)
        → Consumes first last input → IsOpened takes mark file new opened again
        → Only seen (may_leave opened.journal.disk) → Stands mark (recovered file) seen
        → LeavesOnly moment left_since disk opened.journal.disk (IsAsBefore (may_leave disk) mark file)
        → LeavesOnly moment left_since opened.journal.disk later
        (λ c. may_leave opened.journal.disk c ⊎ LeavesFront asked says takes answers opened.party first last opened.journal.mark opened.journal.texts c)
        → LeavesOnly moment left_since disk later (λ c. may_leave disk c ⊎ LeavesRun takes answers asked says mark file new first last c)
    run_left mark file seen new opened again disk later first last input came is only stands early run =
        let P : List ℕ → Type 0 = λ c. may_leave disk c ⊎ LeavesRun takes answers asked says mark file new first last c in
        let Q : List ℕ → Type 0 = λ c. may_leave opened.journal.disk c ⊎ LeavesFront asked says takes answers opened.party first last opened.journal.mark opened.journal.texts c in
        let alone : (c : List ℕ) → Stands mark (recovered file) c → P c =
        λ c here. inr (texts_alone mark file new opened.party first last input c came is.replays here) in
        let before : LeavesOnly moment left_since disk opened.journal.disk P =
        weaker moment left_since disk opened.journal.disk (IsAsBefore (may_leave disk) mark file) P early (λ c. ⊎_elim (λ left. inl left) (λ both. alone c both.1)) in
        then_only moment left_since disk opened.journal.disk later P Q before run
        (λ c. ⊎_elim
        (λ left. alone c (subst (λ f. Stands mark (recovered file) f) (sym (only c left)) stands))
        (λ front. inr (record {
          opened = opened.party;
          replays = is.replays;
          front = subst (λ m. LeavesFront asked says takes answers opened.party first last m (recovered file) c) is.marked
              (subst (λ ts. LeavesFront asked says takes answers opened.party first last opened.journal.mark ts c) is.texts front);
        })))
