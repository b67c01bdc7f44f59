-- An input that is played, over any runs.
use Rattle.std.proofs.Common.{◌≡◌, ℕ, ◌+◌, ◌≤◌, ◌<◌, length, List, refl, sym, ap, ◌∙◌, subst, arith, Bool, true, false, nat_lt, if◌then◌else◌, Option, Result, Ok, Err, IfOk}
use Rattle.std.proofs.lemmas.Bool.Decides.{nat_tests}
use Rattle.ar_base.specs.Faults.{HasRisen}
use Rattle.ar_run.specs.Answers.{Answer, written_of}
use Rattle.ar_run.specs.Runs.{TakesAll, TakesAtMost, most_read_bytes}
use Rattle.ar_run.specs.Writing.{Writes}
use Rattle.ar_run.specs.declared.fault.Fault.{Fault}
use Rattle.ar_run.specs.declared.fault.Fault.TheVariants as fault
use Rattle.ar_world.specs.Run.{Run, text_of_run}
use Rattle.arpki_ask.specs.Answers.{refused_line, too_long}
use Rattle.script_play.specs.Played.{IsPlayed, Plays, PlaysFront, PlaysWhole, RefusesLong, answer_by, run_answer, run_status}
use Rattle.script_play.specs.Playing.{Played, WritesUpTo}
use Rattle.script_play.proofs.Written.{failing, line-written, wrote-no_more, written-answered, written-failed}

-- ---- an input that is too long

abbrev refused_bytes : List ℕ
refused_bytes = written_of (refused_line too_long)

pub refusing-done : {K : Type 0} (faults : K → ℕ) (wrote : K → List ℕ → Type 0) (a b : K) (answer : Answer)
    → answer ≡ refused_line too_long → Writes {A = Unit {0}} faults wrote a b (written_of answer) (Ok tt) → RefusesLong faults wrote a b (Ok 3)
refusing-done faults wrote a b answer is writes =
    let three : Result ℕ Fault = Ok 3 in
    record {
      status = refl;
      written = subst (λ (x : Answer). WritesUpTo faults wrote a b (written_of x) three) is
          (written-answered faults wrote a b (written_of answer) (tt {0}) 3 (line-written faults wrote a b (written_of answer) (Ok tt) writes));
    }

pub refusing-broken : {K : Type 0} (faults : K → ℕ) (wrote : K → List ℕ → Type 0) (a b : K) (answer : Answer) (f : Fault)
    → answer ≡ refused_line too_long → Writes faults wrote a b (written_of answer) (failing (Unit {0}) f) → RefusesLong faults wrote a b (Err f)
refusing-broken faults wrote a b answer f is writes = record {
  status = tt;
  written = subst (λ (x : Answer). WritesUpTo faults wrote a b (written_of x) (failing ℕ f)) is
      (written-failed faults wrote a b (written_of answer) f (line-written faults wrote a b (written_of answer) (failing (Unit {0}) f) writes));
}

pub refusing-no_more : {K : Type 0} (faults : K → ℕ) (wrote : K → List ℕ → Type 0) (a : K) → RefusesLong faults wrote a a (Err fault.Memory)
refusing-no_more faults wrote a = record { status = tt; written = wrote-no_more faults wrote a refused_bytes }

pub ruleset refusing_laws = (refusing-done, refusing-broken, refusing-no_more)

-- ---- what is taken

pub input-taken : (old new : Option (List ℕ)) (input : List ℕ) → TakesAll old new input → TakesAtMost (most_read_bytes + 1) old new
input-taken old new input takes = (input, takes.taken, takes.bounded)

module _ {S : List ℕ → Type 0} (runs : (input : List ℕ) → S input → Run) where
  -- ---- the answer

  short-answer : (input : List ℕ) (choice : S input) → length input ≤ most_read_bytes → answer_by runs input choice ≡ run_answer (runs input choice)
  short-answer input choice few =
      let so : nat_lt most_read_bytes (length input) ≡ false = grind (arith, nat_tests) in
      ap (λ (b : Bool). if b then refused_line too_long else run_answer (runs input choice)) so

  long-answer : (input : List ℕ) (choice : S input) → most_read_bytes < length input → answer_by runs input choice ≡ refused_line too_long
  long-answer input choice many =
      let so : nat_lt most_read_bytes (length input) ≡ true = grind (arith, nat_tests) in
      ap (λ (b : Bool). if b then refused_line too_long else run_answer (runs input choice)) so

  -- ---- an input that is played

  -- one that is not too long
  pub short-done : {K : Type 0} (faults : K → ℕ) (wrote : K → List ℕ → Type 0) (a b : K) (input : List ℕ) (p : Played) (status : ℕ)
      → Plays runs faults wrote a b input (Ok p) → length input ≤ most_read_bytes → status ≡ run_status p.refused → IsPlayed runs faults wrote a b input (Ok status)
  short-done faults wrote a b input p status plays few is =
      let whole = sym (short-answer input plays.choice few) in
      let bytes = text_of_run (runs input plays.choice) in
      record {
        choice = plays.choice;
        status = is ∙ ap (λ (q : Played). run_status q.refused) plays.played ∙ ap (λ (x : Answer). x.status) whole;
        written = subst (λ (x : Answer). WritesUpTo faults wrote a b (written_of x) (Ok status)) whole (written-answered faults wrote a b bytes p status plays.written);
      }

  pub short-broken : {K : Type 0} (faults : K → ℕ) (wrote : K → List ℕ → Type 0) (a b : K) (input : List ℕ) (f : Fault)
      → Plays runs faults wrote a b input (Err f) → length input ≤ most_read_bytes → IsPlayed runs faults wrote a b input (Err f)
  short-broken faults wrote a b input f plays few =
      let whole = sym (short-answer input plays.choice few) in
      let bytes = text_of_run (runs input plays.choice) in
      record {
        choice = plays.choice;
        status = tt;
        written = subst (λ (x : Answer). WritesUpTo faults wrote a b (written_of x) (failing ℕ f)) whole (written-failed faults wrote a b bytes f plays.written);
      }

  -- one that is
  pub long-played : {K : Type 0} (faults : K → ℕ) (wrote : K → List ℕ → Type 0) (a b : K) (input : List ℕ) (choice : S input) (result : Result ℕ Fault)
      → most_read_bytes < length input → RefusesLong faults wrote a b result → IsPlayed runs faults wrote a b input result
  long-played faults wrote a b input choice result many refuses =
      let whole = sym (long-answer input choice many) in
      record {
        choice = choice;
        status = subst (λ (x : Answer). IfOk result (λ s. s ≡ x.status)) whole refuses.status;
        written = subst (λ (x : Answer). WritesUpTo faults wrote a b (written_of x) result) whole refuses.written;
      }

  -- one of which all is there
  pub script-same : {K : Type 0} (faults : K → ℕ) (wrote : K → List ℕ → Type 0) (a b : K) (script input : List ℕ) (result : Result ℕ Fault)
      → script ≡ input → length input ≤ most_read_bytes → (length script ≤ most_read_bytes → IsPlayed runs faults wrote a b script result) → IsPlayed runs faults wrote a b input result
  script-same faults wrote a b script input result is few plays =
      let Same = λ (text : List ℕ). IsPlayed runs faults wrote a b text result in
      subst Same is (plays (subst (λ (text : List ℕ). length text ≤ most_read_bytes) (sym is) few))

  -- ---- an input that was taken, where each run is safe

  pub input-whole : {K : Type 0} (IsSafe : Run → Type 0) (faults : K → ℕ) (wrote : K → List ℕ → Type 0) (a b : K) (input : List ℕ) (old new : Option (List ℕ)) (result : Result ℕ Fault)
      → ((choice : S input) → length input ≤ most_read_bytes → IsSafe (runs input choice))
      → TakesAll old new input → IsPlayed runs faults wrote a b input result → IfOk result (λ status. PlaysWhole runs IsSafe old new wrote a b status)
  input-whole IsSafe faults wrote a b input old new (Ok status) safe takes plays =
      record { input = input; choice = plays.choice; taken = takes; written = (plays.status, plays.written.whole); safe = safe plays.choice }
  input-whole IsSafe faults wrote a b input old new (Err f) safe takes plays = tt

  pub input-front : {K : Type 0} (IsSafe : Run → Type 0) (faults : K → ℕ) (wrote : K → List ℕ → Type 0) (a b : K) (input : List ℕ) (old new : Option (List ℕ)) (result : Result ℕ Fault) (f : Fault)
      → ((choice : S input) → length input ≤ most_read_bytes → IsSafe (runs input choice))
      → TakesAll old new input → IsPlayed runs faults wrote a b input result → result ≡ Err f → PlaysFront runs IsSafe old new wrote a b
  input-front IsSafe faults wrote a b input old new (Ok status) f safe takes plays is = absurd (cc)
  input-front IsSafe faults wrote a b input old new (Err g) f safe takes plays is =
      record { input = input; choice = plays.choice; taken = takes; written = plays.written.broken; safe = safe plays.choice }

  pub input-sink : {K : Type 0} (IsSafe : Run → Type 0) (faults : K → ℕ) (wrote : K → List ℕ → Type 0) (a b : K) (input : List ℕ) (old new : Option (List ℕ)) (result : Result ℕ Fault)
      → ((choice : S input) → length input ≤ most_read_bytes → IsSafe (runs input choice))
      → TakesAll old new input → IsPlayed runs faults wrote a b input result → result ≡ Err fault.Sink → HasRisen (faults a) (faults b) × PlaysFront runs IsSafe old new wrote a b
  input-sink IsSafe faults wrote a b input old new result safe takes plays is =
      (plays.written.blames.sink is, input-front IsSafe faults wrote a b input old new result fault.Sink safe takes plays is)

pub ruleset short_laws = (short-done, short-broken)
