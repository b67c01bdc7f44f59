-- What a party did of a line.
use Rattle.std.proofs.Common.{◌≡◌, ◌≢◌, ◌⊎◌, inl, inr, ℕ, ◌+◌, ◌<◌, ◌≤◌, true, false, List, [], ◌∷◌, ◌++◌, length, Option, Some, refl, sym, ap, ◌∙◌, subst, ⊎_elim}
use Rattle.std.specs.Prelude.{if◌then◌else◌, Bool, Result, Ok, Err, IfOk, IfErr, IsErrOf}
use Rattle.std.proofs.lemmas.Bool.{le-ltb, lt-ltb}
use Rattle.std.proofs.lemmas.List.{append-nil}
use Rattle.ar_lines.specs.declared.refusal.Reason.TheVariants.{Limit}
use Rattle.desk_run.specs.Answers.{AnswersLine, Does, DoesAsked, Kept, asked_of, longest_line}
use Rattle.desk_run.specs.Reading.{Passed}
use Rattle.desk_run.specs.Runs.{HasDoneLine, HasNotDoneLine}
use Rattle.desk_run.specs.declared.stop.Stop.{Stop}
use Rattle.desk_run.specs.declared.stop.Stop.TheVariants.{Count, Disk, Memory, Sink, Source}
use Rattle.kept_journal.specs.Journal.{Stands}
use Rattle.kept_party.specs.Parts.{WithJournal}
use Rattle.party_desk.specs.Asking.{Wanted}
use Rattle.party_desk.specs.Telling.{unread_line}
use Rattle.party_desk.specs.declared.unread.Cause.TheVariants.{Form}

module _ {P Order Reply Refusal : Type 0}
    (asked : P → List ℕ → Wanted Order)
    (says : P → Order → List ℕ → Type 0)
    (takes : P → List ℕ → Reply → P → Type 0)
    (tells : P → Order → Reply → Type 0)
    (refuses : P → Order → Refusal → Type 0)
    (sent_text : Reply → List ℕ)
    (told_text : P → ℕ → Order → Reply → List ℕ)
    (refused_text : P → ℕ → Order → Refusal → Option (List ℕ)) where
  -- what it did is told by its reply
  pub by_reply : {K : Type 0} (old new : WithJournal P K) (number : ℕ) (order : Order) (its : Reply)
      → ((text : List ℕ) × says old.party order text × takes old.party text its new.party × (new.journal.texts ≡ old.journal.texts ++ text ∷ []) × (new.journal.count ≡ old.journal.count + 1))
      ⊎ ((new ≡ old) × tells old.party order its)
      → (one : Kept) × (Does asked says takes tells refuses sent_text told_text refused_text old.party number order (sent_text its ++ told_text new.party number order its) one new.party
      × (new.journal.texts ≡ old.journal.texts ++ one))
  by_reply old new number order its = ⊎_elim
      (λ t. (t.0 ∷ [], (inl (t.0, (refl, record { reply = its; its = t.1; taken = t.2; is = refl })), t.3)))
      (λ t. (
        [],
        (
          inr (refl, (ap (λ k. k.party) t.0, inl (record { reply = its; told = t.1; is = ap (λ k. sent_text its ++ told_text k.party number order its) t.0 }))),
          ap (λ k. k.journal.texts) t.0 ∙ sym (append-nil old.journal.texts),
        ),
      ))

  -- It did what it was asked, and this is to be written of that.
  abbrev pub Did : {K : Type 0} → WithJournal P K → WithJournal P K → ℕ → Order → List ℕ → Type 0
  Did old new number order written = (one : Kept) × (Does asked says takes tells refuses sent_text told_text refused_text old.party number order written one new.party
      × (new.journal.texts ≡ old.journal.texts ++ one))

  -- as its reply tells
  pub did_reply : {K : Type 0} (old new : WithJournal P K) (number : ℕ) (order : Order) (its : Reply) (written : List ℕ)
      → ((text : List ℕ) × says old.party order text × takes old.party text its new.party × (new.journal.texts ≡ old.journal.texts ++ text ∷ []) × (new.journal.count ≡ old.journal.count + 1))
      ⊎ ((new ≡ old) × tells old.party order its)
      → written ≡ sent_text its ++ told_text new.party number order its → Did old new number order written
  did_reply old new number order its written t is = subst (λ (w : List ℕ). Did old new number order w) (sym is) (by_reply old new number order its t)

  -- as its refusal tells, where it did nothing
  pub did_refusal : {K : Type 0} (old new : WithJournal P K) (number : ℕ) (order : Order) (why : Refusal) (written : List ℕ) → new ≡ old → refuses old.party order why
      → refused_text new.party number order why ≡ Some written → Did old new number order written
  did_refusal old new number order why written same r told = (
    [],
    (
      inr (refl, (ap (λ k. k.party) same, inr (record { refusal = why; refused = r; is = ap (λ k. refused_text k.party number order why) (sym same) ∙ told }))),
      ap (λ k. k.journal.texts) same ∙ sym (append-nil old.journal.texts),
    ),
  )

  -- a line that is short enough is answered by what it asks
  pub by_asked : (old : P) (number : ℕ) (line : List ℕ) (w : Wanted Order) (written : List ℕ) (kept : Kept) (new : P) → length line ≤ longest_line → asked old line ≡ w
      → DoesAsked asked says takes tells refuses sent_text told_text refused_text old number w written kept new
      → AnswersLine asked says takes tells refuses sent_text told_text refused_text old number line written kept new
  by_asked old number line w written kept new short is =
      subst (λ v. DoesAsked asked says takes tells refuses sent_text told_text refused_text old number v written kept new)
      (sym (ap (λ b. if b then Err (Form Limit) else asked old line) (le-ltb longest_line (length line) short) ∙ is))

  -- a longer one is refused
  pub by_length : {K : Type 0} (old : WithJournal P K) (number : ℕ) (line : List ℕ) (written : List ℕ) → longest_line < length line → written ≡ unread_line number (Form Limit)
      → HasDoneLine (AnswersLine asked says takes tells refuses sent_text told_text refused_text) old old number line written
  by_length old number line written long is = record {
    one = [];
    its = subst (λ v. DoesAsked asked says takes tells refuses sent_text told_text refused_text old.party number v written [] old.party)
        (sym (ap (λ b. if b then Err (Form Limit) else asked old.party line) (lt-ltb longest_line (length line) long))) (is, (refl, refl));
    texts = sym (append-nil old.journal.texts);
  }

  -- a line of which it does nothing
  pub by_nothing : {K : Type 0} (old : WithJournal P K) (number : ℕ) (line written : List ℕ) → AnswersLine asked says takes tells refuses sent_text told_text refused_text old.party number line written [] old.party
      → HasDoneLine (AnswersLine asked says takes tells refuses sent_text told_text refused_text) old old number line written
  by_nothing old number line written its = record { one = []; its = its; texts = sym (append-nil old.journal.texts) }

-- a line that is short enough asks what it asks of the party
pub asks_short : {P Order : Type 0} (asked : P → List ℕ → Wanted Order) (old : P) (line : List ℕ) → length line ≤ longest_line → asked_of asked old line ≡ asked old line
asks_short asked old line short = ap (λ b. if b then Err (Form Limit) else asked old line) (le-ltb longest_line (length line) short)

-- nothing was done of a line
pub not_done : {P K : Type 0} (answers : P → ℕ → List ℕ → List ℕ → Kept → P → Type 0) (held : K → List ℕ) (old new : WithJournal P K) (number : ℕ) (line : List ℕ) (stop : Stop)
    → (stop ≢ Disk → new ≡ old) → (stop ≡ Disk → new.journal.stopped ≡ true)
    → (stop ≡ Disk → old.journal.stopped ≡ false → Stands old.journal.mark old.journal.texts (held new.journal.disk)) → new.journal.mark ≡ old.journal.mark
    → HasNotDoneLine answers held old new number line stop
not_done answers held old new number line stop same stopped stands mark = record {
  written = [];
  one = [];
  mid = old.party;
  its = inl (refl, (refl, refl));
  done = record {
    reached = λ other. ap (λ k. k.party) (same other);
    texts = λ other. ap (λ k. k.journal.texts) (same other) ∙ sym (append-nil old.journal.texts);
    runs = λ other goes. ap (λ k. k.journal.stopped) (same other) ∙ goes;
    stopped = stopped;
    file = λ is goes. subst (λ ts. Stands old.journal.mark ts (held new.journal.disk)) (sym (append-nil old.journal.texts)) (stands is goes);
    mark = mark;
  };
  told = λ _. refl;
}

-- a line was done, and then memory ran out
pub done_not_told : {P K : Type 0} (answers : P → ℕ → List ℕ → List ℕ → Kept → P → Type 0) (held : K → List ℕ) (old new : WithJournal P K) (number : ℕ) (line written : List ℕ)
    → (old.journal.stopped ≡ false → new.journal.stopped ≡ false) → new.journal.mark ≡ old.journal.mark
    → HasDoneLine answers old new number line written → HasNotDoneLine answers held old new number line Memory
done_not_told answers held old new number line written runs mark d = record {
  written = written;
  one = d.one;
  mid = new.party;
  its = inr d.its;
  done = record { reached = λ _. refl; texts = λ _. d.texts; runs = λ _. runs; stopped = λ is. absurd (cc); file = λ is. absurd (cc); mark = mark };
  told = λ other. absurd (other refl);
}

-- want of memory before the line was taken
pub no_memory : {P K : Type 0} (answers : P → ℕ → List ℕ → List ℕ → Kept → P → Type 0) (held : K → List ℕ) (old : WithJournal P K) (number : ℕ) (line : List ℕ)
    → HasNotDoneLine answers held old old number line Memory
no_memory answers held old number line = not_done answers held old old number line Memory (λ _. refl) (λ is. absurd (cc)) (λ is. absurd (cc)) refl

-- a line that was not too long is held whole
pub held_whole : (long : Bool) (held line : List ℕ) → long ≡ false → Passed long held line → (held ≡ line) × (length line ≤ longest_line)
held_whole long held line is passed = subst (λ b. Passed b held line) is passed

module _ {P Order Reply Refusal : Type 0}
    (asked : P → List ℕ → Wanted Order)
    (says : P → Order → List ℕ → Type 0)
    (takes : P → List ℕ → Reply → P → Type 0)
    (tells : P → Order → Reply → Type 0)
    (refuses : P → Order → Refusal → Type 0)
    (sent_text : Reply → List ℕ)
    (told_text : P → ℕ → Order → Reply → List ℕ)
    (refused_text : P → ℕ → Order → Refusal → Option (List ℕ))
    {K T : Type 0} (items : T → List ℕ) (old new : WithJournal P K) (number : ℕ) (order : Order) (line : List ℕ) where
  abbrev Answers : P → ℕ → List ℕ → List ℕ → Kept → P → Type 0
  Answers = AnswersLine asked says takes tells refuses sent_text told_text refused_text

  -- an answer to an order is one to the line that asks it
  done_of : (written : List ℕ) → length line ≤ longest_line → asked old.party line ≡ Ok (Some order)
      → Did asked says takes tells refuses sent_text told_text refused_text old new number order written → HasDoneLine Answers old new number line written
  done_of written short asks d = record {
    one = d.0;
    its = by_asked asked says takes tells refuses sent_text told_text refused_text old.party number line (Ok (Some order)) written d.0 new.party short asks d.1.0;
    texts = d.1.1;
  }

  -- this is written of it
  pub asked_done : (answer : Result T Stop) → length line ≤ longest_line → asked old.party line ≡ Ok (Some order)
      → IfOk answer (λ text. Did asked says takes tells refuses sent_text told_text refused_text old new number order (items text))
      → IfOk answer (λ text. HasDoneLine Answers old new number line (items text))
  asked_done (Ok text) short asks did = done_of (items text) short asks did
  asked_done (Err stop) short asks did = tt

  -- and where it stops, it was not done, or it was done and memory ran out
  pub asked_not_done : (held : K → List ℕ) (answer : Result T Stop) → length line ≤ longest_line → asked old.party line ≡ Ok (Some order)
      → (IsErrOf answer Memory → (new ≡ old) ⊎ ((written : List ℕ) × Did asked says takes tells refuses sent_text told_text refused_text old new number order written))
      → (answer ≡ Err Disk → old.journal.stopped ≡ false → Stands old.journal.mark old.journal.texts (held new.journal.disk))
      → (answer ≢ Err Disk → old.journal.stopped ≡ false → new.journal.stopped ≡ false) → (answer ≡ Err Disk → new.journal.stopped ≡ true) → new.journal.mark ≡ old.journal.mark
      → (answer ≢ Err Source) × (answer ≢ Err Sink) × (answer ≢ Err Count) → IfErr answer (HasNotDoneLine Answers held old new number line)
  asked_not_done held (Ok text) short asks memory stands runs stopped mark only = tt
  asked_not_done held (Err Disk) short asks memory stands runs stopped mark only =
      not_done Answers held old new number line Disk (λ other. absurd (other refl)) (λ _. stopped refl) (λ is. stands refl) mark
  asked_not_done held (Err Source) short asks memory stands runs stopped mark only = absurd (only.0 refl)
  asked_not_done held (Err Sink) short asks memory stands runs stopped mark only = absurd (only.1 refl)
  asked_not_done held (Err Count) short asks memory stands runs stopped mark only = absurd (only.2 refl)
  asked_not_done held (Err Memory) short asks memory stands runs stopped mark only =
      ⊎_elim
      (λ same. not_done Answers held old new number line Memory (λ _. same) (λ is. absurd (cc)) (λ is. absurd (cc)) mark)
      (λ d. done_not_told Answers held old new number line d.0 (runs (λ is. absurd (cc))) mark (done_of d.0 short asks d.1))
      (memory refl)
