-- Scripts that are played, whole or in part.
use Rattle.std.proofs.Common.{◌≡◌, ℕ, ◌≤◌, ◌<◌, inr, length, List, [], ◌∷◌, append-nil, refl, sym, ap, ◌∙◌, subst, Option, Some, Result, Ok, Err, IfOk, Vec}
use Rattle.std.specs.declared.alloc.AllocError.{AllocError}
use Rattle.std.specs.declared.alloc.Global.{Global}
use Rattle.sha2.specs.Sha256.{sha256}
use Rattle.script_make.specs.Script.{script}
use Rattle.ar_base.specs.Faults.{HasRisen}
use Rattle.ar_io.specs.Wrote.{Appended, AppendedFront}
use Rattle.ar_run.specs.Answers.{Answer, written_of}
use Rattle.ar_run.specs.Runs.{TakesAll, most_read_bytes}
use Rattle.ar_run.specs.declared.fault.Fault.{Fault}
use Rattle.ar_run.specs.declared.fault.Fault.TheVariants as fault
use Rattle.owner_check.specs.declared.answer.Outcome.TheVariants.{Failed}
use Rattle.script_play.specs.ar_nodes.Parties.{CheckParts}
use Rattle.script_play.specs.ar_world.Run.{Saying, text_of_run}
use Rattle.run_restart.specs.run_safety.Headline.{IsSafeRun}
use Rattle.run_restart.proofs.run_safety.Safe.{safe-run}
use Rattle.script_play.specs.Played.{IsPlayed, Plays, PlaysFront, PlaysWhole, RefusesLong, run_with}
use Rattle.script_play.specs.Playing.{Played}
use Rattle.script_play.proofs.Inputs.{input-front, input-sink, input-taken, input-whole, long-played, script-same}
use Rattle.arpki_play.specs.Made.{summed}
use Rattle.arpki_play.specs.Program.{RunsFront, RunsWhole, Stops, Sums}
use Rattle.arpki_play.specs.declared.request.Request.TheVariants.{Play}

-- ---- an input

-- one of which all is there
pub script-there : {K : Type 0} (faults : K → ℕ) (wrote : K → List ℕ → Type 0) (a b : K) (checks : List CheckParts) (script input : List ℕ) (result : Result ℕ Fault)
    → script ≡ input → length input ≤ most_read_bytes → (length script ≤ most_read_bytes → IsPlayed (run_with checks) faults wrote a b script result)
    → IsPlayed (run_with checks) faults wrote a b input result
script-there faults wrote a b checks script input result is few plays = script-same (run_with checks) faults wrote a b script input result is few plays

-- one that is too long: nothing is asked
pub script-long : {K : Type 0} (faults : K → ℕ) (wrote : K → List ℕ → Type 0) (a b : K) (checks : List CheckParts) (input : List ℕ) (result : Result ℕ Fault)
    → most_read_bytes < length input → RefusesLong faults wrote a b result → IsPlayed (run_with checks) faults wrote a b input result
script-long faults wrote a b checks input result many refuses = long-played (run_with checks) faults wrote a b input (λ _ _. Failed) result many refuses

pub ruleset script_laws = (script-there, script-long)

-- each run is safe
each-safe : (checks : List CheckParts) (input : List ℕ) (saying : Saying) → length input ≤ most_read_bytes → IsSafeRun (run_with checks input saying)
each-safe checks input saying few = safe-run saying checks input

pub input-answered : {K : Type 0} (faults : K → ℕ) (wrote : K → List ℕ → Type 0) (a b : K) (checks : List CheckParts) (input : List ℕ) (old new : Option (List ℕ)) (result : Result ℕ Fault)
    → TakesAll old new input → IsPlayed (run_with checks) faults wrote a b input result → IfOk result (λ status. PlaysWhole (run_with checks) IsSafeRun old new wrote a b status)
input-answered faults wrote a b checks input old new result takes plays =
    input-whole (run_with checks) IsSafeRun faults wrote a b input old new result (each-safe checks input) takes plays

pub input-cut : {K : Type 0} (faults : K → ℕ) (wrote : K → List ℕ → Type 0) (a b : K) (checks : List CheckParts) (input : List ℕ) (old new : Option (List ℕ)) (result : Result ℕ Fault)
    → TakesAll old new input → IsPlayed (run_with checks) faults wrote a b input result → result ≡ Err fault.Sink
    → HasRisen (faults a) (faults b) × PlaysFront (run_with checks) IsSafeRun old new wrote a b
input-cut faults wrote a b checks input old new result takes plays is =
    input-sink (run_with checks) IsSafeRun faults wrote a b input old new result (each-safe checks input) takes plays is

pub input-memory : {K : Type 0} (faults : K → ℕ) (wrote : K → List ℕ → Type 0) (a b : K) (checks : List CheckParts) (input : List ℕ) (old new : Option (List ℕ)) (result : Result ℕ Fault)
    → TakesAll old new input → IsPlayed (run_with checks) faults wrote a b input result → result ≡ Err fault.Memory → Stops checks (Some Play) old new wrote a b
input-memory faults wrote a b checks input old new result takes plays is =
    inr (input-front (run_with checks) IsSafeRun faults wrote a b input old new result fault.Memory (each-safe checks input) takes plays is)

pub ruleset input_laws = (input-answered, input-cut, input-memory, input-taken)

-- ---- a script that was made

pub quiet-sums : {K : Type 0} (faults : K → ℕ) (wrote : K → List ℕ → Type 0) (a b : K) (checks : List CheckParts) (domains : ℕ) (text output : List ℕ) (p : Played) (result : Result (Vec ℕ Global × ℕ) AllocError)
    → wrote a [] → Plays (run_with checks) faults wrote a b text (Ok p) → ((bytes : List ℕ) → wrote b bytes → output ≡ sha256 bytes)
    → IfOk result (λ told. summed domains p output p.refused ≡ record { lines = told.0.items ∷ []; status = told.1 })
    → IfOk result (Sums checks domains text)
quiet-sums faults wrote a b checks domains text output p (Ok told) none plays digest sums =
    let r = run_with checks text plays.choice in
    let bytes = text_of_run r in
    let is = digest bytes (plays.written.whole [] none) in
    record {
      saying = plays.choice;
      is = ap (λ (q : Played). summed domains q (sha256 bytes) q.refused) (sym plays.played) ∙ ap (λ (o : List ℕ). summed domains p o p.refused) (sym is) ∙ sums;
    }
quiet-sums faults wrote a b checks domains text output p (Err e) none plays digest sums = tt

pub made-same : (checks : List CheckParts) (domains : ℕ) (text : List ℕ) (result : Result (Vec ℕ Global × ℕ) AllocError) → text ≡ script domains
    → IfOk result (Sums checks domains text) → IfOk result (Sums checks domains (script domains))
made-same checks domains text result is made = subst (λ (t : List ℕ). IfOk result (Sums checks domains t)) is made

pub made-done : {K : Type 0} (wrote : K → List ℕ → Type 0) (a b : K) (checks : List CheckParts) (domains : ℕ) (line : Vec ℕ Global) (status : ℕ)
    → Sums checks domains (script domains) (line, status) → Appended wrote a b line.items → RunsWhole checks domains wrote a b status
made-done wrote a b checks domains line status sums written =
    let Whole = λ (x : Answer). (status ≡ x.status) × Appended wrote a b (written_of x) in
    record {
      saying = sums.saying;
      answered = subst Whole (sym sums.is) (refl, subst (λ (bytes : List ℕ). Appended wrote a b bytes) (sym (append-nil line.items)) written);
      safe = safe-run sums.saying checks (script domains);
    }

pub made-front : {K : Type 0} (wrote : K → List ℕ → Type 0) (a b : K) (checks : List CheckParts) (domains : ℕ) (line : Vec ℕ Global) (status : ℕ)
    → Sums checks domains (script domains) (line, status) → AppendedFront wrote a b line.items
    → RunsFront checks domains wrote a b
made-front wrote a b checks domains line status sums written =
    let Front = λ (x : Answer). AppendedFront wrote a b (written_of x) in
    record {
      saying = sums.saying;
      front = subst Front (sym sums.is) (subst (λ (bytes : List ℕ). AppendedFront wrote a b bytes) (sym (append-nil line.items)) written);
      safe = safe-run sums.saying checks (script domains);
    }

pub ruleset made_laws = (made-done, made-front)
