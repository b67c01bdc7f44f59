-- What a run came to, where it ends and where it stops, and each turn of it.
use Rattle.std.specs.Prelude.{◌≡◌, ◌≢◌, ◌≤◌, ◌⊎◌, ◌+◌, ◌-◌, ◌^◌, ℕ, List, [], ◌++◌, length, Option, false}
use Rattle.std.specs.Io.KnownBytes.{Consumes, IsAtEnd}
use Rattle.ar_io.specs.Wrote.{Appended, Unchanged}
use Rattle.desk_run.specs.Answers.{AnswersAtMostOne, AnswersFront, AnswersOne, Kept}
use Rattle.desk_run.specs.Lines.{IsUncut}
use Rattle.desk_run.specs.Stops.{HasDone}
use Rattle.desk_run.specs.declared.stop.Stop.{Stop}
use Rattle.desk_run.specs.declared.stop.Stop.TheVariants.{Memory, Sink, Source}
use Rattle.kept_party.specs.Parts.{WithJournal}

-- as many bytes came as nobody counts
abbrev pub HasOverrun : Option (List ℕ) → Option (List ℕ) → Type 0
HasOverrun first last = (input : List ℕ) × Consumes first last input × (2 ^ 64 - 2 ≤ length input)

-- the sink wrote a front of these bytes, which may be none or all of them
abbrev pub AppendedAtMost : {W : Type 0} → (W → List ℕ → Type 0) → W → W → List ℕ → Type 0
AppendedAtMost wrote before after bytes =
    (front : List ℕ) × ((rest : List ℕ) × ((bytes ≡ front ++ rest) × Appended wrote before after front))

-- the sink wrote these bytes, and a front of those behind them, which may be none or all of them
abbrev pub AppendedWithFront : {W : Type 0} → (W → List ℕ → Type 0) → W → W → List ℕ → List ℕ → Type 0
AppendedWithFront wrote before after bytes behind =
    (front : List ℕ) × ((rest : List ℕ) × ((behind ≡ front ++ rest) × Appended wrote before after (bytes ++ front)))

-- over a way to answer a line: a party with its journal is the old one and then the new one
module _ {P K : Type 0} (answers : P → ℕ → List ℕ → List ℕ → Kept → P → Type 0) where
  -- It answered a line, and this was written.
  pub record HasDoneLine (old new : WithJournal P K) (number : ℕ) (line written : List ℕ) : Type 0 where
    pub one : Kept
    pub its : answers old.party number line written one new.party
    pub texts : new.journal.texts ≡ old.journal.texts ++ one

  -- It stopped before it took the line, or behind that, where memory ran out.
  pub record HasNotDoneLine (held : K → List ℕ) (old new : WithJournal P K) (number : ℕ) (line : List ℕ) (stop : Stop) : Type 0 where
    pub written : List ℕ
    pub one : Kept
    pub mid : P
    pub its : ((written ≡ []) × ((one ≡ []) × (mid ≡ old.party))) ⊎ answers old.party number line written one mid
    pub done : HasDone held old new mid one stop
    pub told : stop ≢ Memory → written ≡ []

-- over a way to answer a line, and what a sink wrote
module _ {P W : Type 0} (answers : P → ℕ → List ℕ → List ℕ → Kept → P → Type 0) (wrote : W → List ℕ → Type 0) where
  -- A front of what came was answered, and of the answers, and of what is written at first, a front was written.
  pub record HasAnsweredFront (old : P) (first last : Option (List ℕ)) (before after : W) (opening : List ℕ) : Type 0 where
    pub input : List ℕ
    pub came : Consumes first last input
    pub behind : List ℕ
    pub written : List ℕ
    pub more : Kept
    pub mid : P
    pub front : AnswersFront answers old input behind written more mid
    pub sent : AppendedAtMost wrote before after (opening ++ written)

-- over the same: a party with its journal is the old one and then the new one, what the source has left is first this and last that,
-- and the sink is this before and that after
module _ {P K W : Type 0} (answers : P → ℕ → List ℕ → List ℕ → Kept → P → Type 0) (wrote : W → List ℕ → Type 0) where
  -- It answered the lines of a source up to its end: this came, this stands behind the last newline, and these are the answers, which
  -- were written behind what is written at first.
  pub record HasAnswered (old new : WithJournal P K) (first last : Option (List ℕ)) (before after : W) (opening : List ℕ) : Type 0 where
    pub input : List ℕ
    pub came : Consumes first last input
    pub at_end : IsAtEnd last
    pub behind : List ℕ
    pub uncut : IsUncut behind
    pub written : List ℕ
    pub more : Kept
    pub front : AnswersFront answers old.party input behind written more new.party
    pub texts : new.journal.texts ≡ old.journal.texts ++ more
    pub mark : new.journal.mark ≡ old.journal.mark
    pub runs : old.journal.stopped ≡ false → new.journal.stopped ≡ false
    pub sent : Appended wrote before after (opening ++ written)

  -- It stopped before: it answered a front of what came, and these answers were written behind what is written at first; and it did at
  -- most one line more, of whose answer a front was written where a write failed, nothing where memory ran out, and else all. Where
  -- what is written at first was not, nothing came. Where a read failed no whole line is left behind those.
  pub record HasStopped (held : K → List ℕ) (old new : WithJournal P K) (first last : Option (List ℕ)) (before after : W) (opening : List ℕ) (stop : Stop) : Type 0 where
    pub input : List ℕ
    pub came : Consumes first last input
    pub rest : List ℕ
    pub written : List ℕ
    pub more : Kept
    pub mid : P
    pub front : AnswersFront answers old.party input rest written more mid
    pub behind : List ℕ
    pub late : List ℕ
    pub one : Kept
    pub final : P
    pub its : AnswersAtMostOne answers mid (1 + length front.lines) rest behind late one final
    pub done : HasDone held old new final (more ++ one) stop
    pub sent : ((input ≡ []) × AppendedAtMost wrote before after opening) ⊎ AppendedWithFront wrote before after (opening ++ written) late
    pub unsent : stop ≡ Memory → ((input ≡ []) × Unchanged wrote before after) ⊎ Appended wrote before after (opening ++ written)
    pub all_sent : stop ≢ Sink → stop ≢ Memory → Appended wrote before after ((opening ++ written) ++ late)
    pub uncut : stop ≡ Source → IsUncut behind

  -- It answered the line with this number: this was held ahead of it, and then this.
  pub record HasTurned (old new : WithJournal P K) (first last : Option (List ℕ)) (before after : W) (ahead later : List ℕ) (number : ℕ) : Type 0 where
    pub taken : List ℕ
    pub came : Consumes first last taken
    pub written : List ℕ
    pub one : Kept
    pub its : AnswersOne answers old.party number (ahead ++ taken) later written one new.party
    pub texts : new.journal.texts ≡ old.journal.texts ++ one
    pub sent : Appended wrote before after written

  -- there was no line more
  pub record HasEnded (old new : WithJournal P K) (first last : Option (List ℕ)) (before after : W) (ahead : List ℕ) : Type 0 where
    pub taken : List ℕ
    pub came : Consumes first last taken
    pub at_end : IsAtEnd last
    pub uncut : IsUncut (ahead ++ taken)
    pub same : new ≡ old
    pub silent : Unchanged wrote before after

  -- It stopped before it had answered the line, or before all of its answer was written; where a read failed no line had come.
  pub record HasNotTurned (held : K → List ℕ) (old new : WithJournal P K) (first last : Option (List ℕ)) (before after : W) (ahead : List ℕ) (number : ℕ) (stop : Stop) : Type 0 where
    pub taken : List ℕ
    pub came : Consumes first last taken
    pub behind : List ℕ
    pub written : List ℕ
    pub one : Kept
    pub mid : P
    pub its : AnswersAtMostOne answers old.party number (ahead ++ taken) behind written one mid
    pub done : HasDone held old new mid one stop
    pub sent : AppendedAtMost wrote before after written
    pub unsent : stop ≡ Memory → Unchanged wrote before after
    pub all_sent : stop ≢ Sink → stop ≢ Memory → Appended wrote before after written
    pub uncut : stop ≡ Source → IsUncut behind
