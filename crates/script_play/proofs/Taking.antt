-- A line that is taken, and what follows it.
use Rattle.std.proofs.Common.{◌≡◌, ℕ, ◌<◌, ◌≤◌, List, refl, sym, ap, ◌∙◌, subst, arith, Bool, true, false, nat_lt, Option, Some, None, Result, Ok, Err, ◌⊎◌, inl, inr}
use Rattle.std.specs.Prelude.{if◌then◌else◌}
use Rattle.std.proofs.lemmas.Bool.Decides.{nat_tests}
use Rattle.ar_lines.specs.declared.refusal.Reason.{Reason}
use Rattle.ar_lines.specs.declared.refusal.Reason.TheVariants as reason
use Rattle.ar_run.specs.declared.fault.Fault.{Fault}
use Rattle.owner_check.specs.declared.answer.Outcome.{Outcome}
use Rattle.owner_check.specs.declared.answer.Outcome.TheVariants.{Failed}
use Rattle.script_text.specs.Rows.{read_of}
use Rattle.script_text.specs.declared.line.EventLine.{EventLine}
use Rattle.script_text.specs.declared.line.EventLine.TheVariants as event
use Rattle.script_text.specs.declared.line.Line.{Line}
use Rattle.script_text.specs.declared.line.SetupLine.{SetupLine}
use Rattle.script_text.specs.declared.line.Line.TheVariants as line
use Rattle.ar_world.specs.Run.{Progress, deliveries_behind, line_taken, most_lines, progress_of, refusing, taken, taken_as, unmoved}
use Rattle.ar_world.specs.State.{World}
use Rattle.ar_world.specs.Step.{event_effect, step}
use Rattle.ar_world.specs.declared.cause.Cause.{Cause}
use Rattle.ar_world.specs.declared.cause.Cause.TheVariants.{Unread}
use Rattle.script_play.specs.Counts.{counted_from}
use Rattle.script_play.specs.Playing.{PlaysPart, PlaysSome, Stand, line_read}
use Rattle.script_play.proofs.Parts.{plays-nothing, then-broken, then-plays, then-refused}
use Rattle.script_play.proofs.Written.{wrote-nothing}

-- ---- what follows a line

abbrev pub Follows : {K : Type 0} → (K → ℕ) → (K → List ℕ → Type 0) → K → K → Stand → Stand → Line → Result (Option Cause) Fault → Type 0
Follows faults wrote a b s t l result = PlaysSome faults wrote a b s t (λ (says : ℕ → Outcome). deliveries_behind says l s.world) result

-- nothing follows
pub follow-none : {K : Type 0} (faults : K → ℕ) (wrote : K → List ℕ → Type 0) (a : K) (s : Stand) (l : Line) → ((says : ℕ → Outcome) (w : World) → deliveries_behind says l w ≡ unmoved w)
    → Follows faults wrote a a s s l (Ok None)
follow-none faults wrote a s l none = record {
  says = λ _. Failed;
  plays = subst (λ (p : Progress). PlaysPart faults wrote a a s s p (Ok None)) (sym (none (λ _. Failed) s.world)) (plays-nothing faults wrote a s);
}

pub follows-none : (e : EventLine) → (e ≡ event.Flush → ⊥) → (says : ℕ → Outcome) (w : World) → deliveries_behind says (line.Event e) w ≡ unmoved w
follows-none event.Flush other says w = absurd (other refl)
follows-none _ other says w = refl

-- nor does anything follow a line of another kind
pub plain-none : (l : Line) → ((x : SetupLine) × (l ≡ line.Setup x)) ⊎ ((l ≡ line.Burst) ⊎ (l ≡ line.End))
    → (says : ℕ → Outcome) (w : World) → deliveries_behind says l w ≡ unmoved w
plain-none l (inl setup) says w = ap (λ (l : Line). deliveries_behind says l w) setup.1
plain-none l (inr (inl burst)) says w = ap (λ (l : Line). deliveries_behind says l w) burst
plain-none l (inr (inr end)) says w = ap (λ (l : Line). deliveries_behind says l w) end

-- ---- a line, with what follows it

-- what checks say in a line alone, and in what follows it; only one of the two asks any
record Says (says : Outcome) (later : ℕ → Outcome) (l : Line) : Type 0 where
  all : ℕ → Outcome
  alone : (w : World) → step says w l ≡ step (all 0) w l
  behind : (w : World) → deliveries_behind later l w ≡ deliveries_behind all l w

says-both : (says : Outcome) (later : ℕ → Outcome) (l : Line) → Says says later l
unfolding event_effect
says-both says later (line.Event event.Flush) = record { all = later; alone = λ w. refl; behind = λ w. refl }
says-both says later _ = record { all = λ _. says; alone = λ w. refl; behind = λ w. refl }

abbrev pub Alone : {K : Type 0} → (K → ℕ) → (K → List ℕ → Type 0) → K → K → Stand → Stand → Line → Result (Option Cause) Fault → Type 0
Alone faults wrote a b s t l result = PlaysSome faults wrote a b s t (λ (says : Outcome). progress_of s.world (step says s.world l)) result

abbrev pub Takes : {K : Type 0} → (K → ℕ) → (K → List ℕ → Type 0) → K → K → Stand → Stand → Line → Result (Option Cause) Fault → Type 0
Takes faults wrote a b s t l result = PlaysSome faults wrote a b s t (λ (says : ℕ → Outcome). taken says s.world l) result

pub take-followed : {K : Type 0} (faults : K → ℕ) (wrote : K → List ℕ → Type 0) (a b c : K) (s t u : Stand) (l : Line) (result : Result (Option Cause) Fault)
    → Alone faults wrote a b s t l (Ok None) → Follows faults wrote b c t u l result → Takes faults wrote a c s u l result
take-followed faults wrote a b c s t u l result first later =
    let both = says-both first.says later.says l in
    let made = progress_of s.world (step (both.all 0) s.world l) in
    record {
      says = both.all;
      plays = then-plays faults wrote a b c s t u made (deliveries_behind both.all l) result
          (subst (λ (e : Progress). PlaysPart faults wrote a b s t e (Ok None)) (ap (progress_of s.world) (both.alone s.world)) first.plays)
          (subst (λ (p : Progress). PlaysPart faults wrote b c t u p result) (both.behind t.world) later.plays);
    }

pub take-refused : {K : Type 0} (faults : K → ℕ) (wrote : K → List ℕ → Type 0) (a b : K) (s t : Stand) (l : Line) (cause : Cause)
    → Alone faults wrote a b s t l (Ok (Some cause)) → Takes faults wrote a b s t l (Ok (Some cause))
take-refused faults wrote a b s t l cause first =
    let says : ℕ → Outcome = λ _. first.says in
    record {
      says = says;
      plays = then-refused faults wrote a b s t (progress_of s.world (step first.says s.world l)) (deliveries_behind says l) cause first.plays;
    }

pub take-broken : {K : Type 0} (faults : K → ℕ) (wrote : K → List ℕ → Type 0) (a b : K) (s t : Stand) (l : Line) (f : Fault)
    → Alone faults wrote a b s t l (Err f) → Takes faults wrote a b s t l (Err f)
take-broken faults wrote a b s t l f first =
    let says : ℕ → Outcome = λ _. first.says in
    record {
      says = says;
      plays = then-broken faults wrote a b s t (progress_of s.world (step first.says s.world l)) (deliveries_behind says l) f first.plays;
    }

-- ---- a line as it was read

abbrev pub TakesRead : {K : Type 0} → (K → ℕ) → (K → List ℕ → Type 0) → K → K → Stand → Stand → Result (Option Line) Reason → Result (Option Cause) Fault → Type 0
TakesRead faults wrote a b s t read result = PlaysSome faults wrote a b s t (λ (says : ℕ → Outcome). taken_as says s.world read) result

plays-unread : {K : Type 0} (faults : K → ℕ) (wrote : K → List ℕ → Type 0) (a : K) (s : Stand) (why : Reason) → PlaysPart faults wrote a a s s (refusing s.world (Unread why)) (Ok (Some (Unread why)))
unfolding counted_from
plays-unread faults wrote a s why = record { refused = refl; stands = refl; written = wrote-nothing faults wrote a (Some (Unread why)) }

-- one that could not be read
pub read-unread : {K : Type 0} (faults : K → ℕ) (wrote : K → List ℕ → Type 0) (a : K) (s : Stand) (read : Result (Option Line) Reason) (why : Reason) → read ≡ Err why → TakesRead faults wrote a a s s read (Ok (Some (Unread why)))
read-unread faults wrote a s read why is = record {
  says = λ _. Failed;
  plays = subst (λ (r : Result (Option Line) Reason). PlaysPart faults wrote a a s s (taken_as (λ _. Failed) s.world r) (Ok (Some (Unread why)))) (sym is) (plays-unread faults wrote a s why);
}

-- one that is skipped
pub read-skipped : {K : Type 0} (faults : K → ℕ) (wrote : K → List ℕ → Type 0) (a : K) (s : Stand) (read : Result (Option Line) Reason) → read ≡ Ok None → TakesRead faults wrote a a s s read (Ok None)
read-skipped faults wrote a s read is = record {
  says = λ _. Failed;
  plays = subst (λ (r : Result (Option Line) Reason). PlaysPart faults wrote a a s s (taken_as (λ _. Failed) s.world r) (Ok None)) (sym is) (plays-nothing faults wrote a s);
}

-- one that is there
pub read-taken : {K : Type 0} (faults : K → ℕ) (wrote : K → List ℕ → Type 0) (a b : K) (s t : Stand) (read : Result (Option Line) Reason) (l : Line) (result : Result (Option Cause) Fault) → read ≡ Ok (Some l)
    → Takes faults wrote a b s t l result → TakesRead faults wrote a b s t read result
read-taken faults wrote a b s t read l result is takes =
    subst (λ (r : Result (Option Line) Reason). TakesRead faults wrote a b s t r result) (sym is) takes

pub ruleset read_laws = (read-unread, read-skipped, read-taken)

-- ---- the text of a line

-- what is read of a line behind the last that there may be, and of one before it
pub read-past : (number : ℕ) (text : List ℕ) → most_lines < number → Err reason.Limit ≡ line_read number text
read-past number text past =
    let so : nat_lt most_lines number ≡ true = grind (arith, nat_tests) in
    ap (λ (b : Bool). if b then Err reason.Limit else read_of text) (sym so)

pub read-within : (number : ℕ) (text : List ℕ) (read : Result (Option Line) Reason) → number ≤ most_lines → read ≡ read_of text → read ≡ line_read number text
read-within number text read few is =
    let so : nat_lt most_lines number ≡ false = grind (arith, nat_tests) in
    is ∙ ap (λ (b : Bool). if b then Err reason.Limit else read_of text) (sym so)

pub ruleset line_laws = (read-past, read-within)

abbrev pub TakesText : {K : Type 0} → (K → ℕ) → (K → List ℕ → Type 0) → K → K → Stand → Stand → ℕ → List ℕ → Result (Option Cause) Fault → Type 0
TakesText faults wrote a b s t number text result = PlaysSome faults wrote a b s t (λ (says : ℕ → Outcome). line_taken says number s.world text) result

-- a line with a number is taken as it is read
pub taken-as-read : (says : ℕ → Outcome) (number : ℕ) (w : World) (text : List ℕ) → line_taken says number w text ≡ taken_as says w (line_read number text)
unfolding line_taken
taken-as-read says number w text = by (nat_lt most_lines number)
  where
    by : (b : Bool) → (if b then refusing w (Unread reason.Limit) else taken_as says w (read_of text)) ≡ taken_as says w (if b then Err reason.Limit else read_of text)
    by true = refl
    by false = refl

pub text-taken : {K : Type 0} (faults : K → ℕ) (wrote : K → List ℕ → Type 0) (a b : K) (s t : Stand) (number : ℕ) (text : List ℕ) (read : Result (Option Line) Reason) (result : Result (Option Cause) Fault)
    → read ≡ line_read number text → TakesRead faults wrote a b s t read result → TakesText faults wrote a b s t number text result
text-taken faults wrote a b s t number text read result is takes = record {
  says = takes.says;
  plays = subst (λ (p : Progress). PlaysPart faults wrote a b s t p result) (ap (taken_as takes.says s.world) is ∙ sym (taken-as-read takes.says number s.world text)) takes.plays;
}

pub ruleset text_laws = (text-taken)
