-- A script that was played, an input that was read, and a run of the command.
use Rattle.std.proofs.Common.{◌≡◌, ◌≢◌, ℕ, ◌<◌, ◌≤◌, Bool, true, false, nat_lt, if◌then◌else◌, List, length, refl, sym, ap, ◌∙◌, subst, arith, Option, None, Some, Result, Ok, Err, IfOk}
use Rattle.std.specs.Prelude.{MatchOption}
use Rattle.std.specs.declared.alloc.AllocError.{AllocError}
use Rattle.std.proofs.lemmas.Bool.Decides.{nat_tests}
use Rattle.ar_io.specs.Wrote.{Appended, AppendedFront}
use Rattle.script_play.specs.ar_nodes.Parties.{CheckParts}
use Rattle.ar_run.specs.Answers.{Answer, written_of}
use Rattle.ar_run.specs.Runs.{TakesAll, most_read_bytes}
use Rattle.script_play.specs.ar_world.Run.{Saying, run}
use Rattle.arpki_ask.specs.Answers.{refused_line, too_long, unless_long}
use Rattle.log_restart.specs.Restarted.{AreRestarted}
use Rattle.log_restart.specs.declared.disks.Disks.{Disks}
use Rattle.owner_check.specs.declared.answer.Outcome.TheVariants.{Failed}
use Rattle.run_replays.proofs.Runs.{ended-replayed}
use Rattle.run_replays.proofs.run_safety.Safe.{safe-run}
use Rattle.script_play.specs.Played.{Plays, run_with}
use Rattle.script_play.specs.Playing.{Played}
use Rattle.run_restart.specs.Answers.{AreLeft, RestartFront, RestartWhole, line_behind, restart_answer, restarted, telling_played}
use Rattle.run_restart.specs.Asking.{texts_in}
use Rattle.run_restart.specs.Ending.{AreMade, EachReplayed, EndsInput, EndsScript, IsEnded}
use Rattle.run_restart.specs.declared.command.Restart.{Restart}
use Rattle.run_restart.specs.declared.ended.Ended.{Ended}

-- ---- a script

module _ {K : Type 0} (faults : K → ℕ) (wrote : K → List ℕ → Type 0) (a b : K) (checks : List CheckParts) (script : List ℕ) (p : Played) (plays : Plays (run_with checks) faults wrote a b script (Ok p)) where
  -- each honest log of it is what its inputs make of a new one
  pub played-replayed : (number : ℕ) → EachReplayed p.world number
  played-replayed number =
      subst (λ (q : Played). EachReplayed q.world number) (sym plays.played) (λ node there. ended-replayed plays.choice checks script number node there)

  -- what comes of it
  pub played-ended : (asked : Restart) (behind : ℕ) (result : Result Ended AllocError) → behind ≡ line_behind script
      → IfOk result (IsEnded (telling_played asked behind p.world p.refused) (texts_in p.world asked.log) asked.calls) → IfOk result (EndsScript checks asked script)
  played-ended asked behind (Ok ended) is ends =
      let Ends = λ (n : ℕ) (q : Played). IsEnded (telling_played asked n q.world q.refused) (texts_in q.world asked.log) asked.calls ended in
      record { saying = plays.choice; ends = subst (λ (q : Played). Ends (line_behind script) q) plays.played (subst (λ (n : ℕ). Ends n p) is ends) }
  played-ended asked behind (Err e) is ends = tt

pub ruleset played_laws = (played-replayed, played-ended)

-- ---- an input

short-same : (input : List ℕ) (answer : Answer) → length input ≤ most_read_bytes → answer ≡ unless_long input answer
short-same input answer few =
    let so : nat_lt most_read_bytes (length input) ≡ false = grind (arith, nat_tests) in
    ap (λ (b : Bool). if b then refused_line too_long else answer) (sym so)

long-same : (input : List ℕ) (answer : Answer) → most_read_bytes < length input → refused_line too_long ≡ unless_long input answer
long-same input answer many =
    let so : nat_lt most_read_bytes (length input) ≡ true = grind (arith, nat_tests) in
    ap (λ (b : Bool). if b then refused_line too_long else answer) (sym so)

-- one that is not too long
pub script-ended : (checks : List CheckParts) (asked : Restart) (script input : List ℕ) (ended : Ended) → script ≡ input → length input ≤ most_read_bytes
    → EndsScript checks asked script ended → EndsInput checks asked input ended
script-ended checks asked script input ended is few ends =
    let here = subst (λ (s : List ℕ). EndsScript checks asked s ended) is ends in
    let r = run here.saying checks input in
    record {
      saying = here.saying;
      ends = subst (λ (x : Answer). IsEnded x (texts_in r.world asked.log) asked.calls ended) (short-same input (restarted asked input r) few) here.ends;
    }

-- one that is
pub long-ended : (checks : List CheckParts) (asked : Restart) (input : List ℕ) (ended : Ended) → most_read_bytes < length input
    → ended.answer ≡ refused_line too_long → ended.disks ≡ None → EndsInput checks asked input ended
long-ended checks asked input ended many answer none =
    let saying : Saying = λ _ _. Failed in
    let r = run saying checks input in
    let texts = texts_in r.world asked.log in
    let long : IsEnded (refused_line too_long) texts asked.calls ended = record {
      answered = answer;
      made = subst (AreMade 3 texts asked.calls) (sym none) refl;
    } in
    record {
      saying = saying;
      ends = subst (λ (x : Answer). IsEnded x texts asked.calls ended) (long-same input (restarted asked input r) many) long;
    }

pub ruleset input_laws = (script-ended, long-ended)

-- ---- a run of the command

left-by : (status : ℕ) (texts : List (List ℕ)) (calls : ℕ) (made : Option Disks) (old new : Disks)
    → AreMade status texts calls made
    → MatchOption made (new ≡ old) (λ m. new ≡ m) → AreLeft status texts calls old new
left-by status texts calls None old new is put = record { runs = λ nothing. absurd (omega (arith, is, nothing)); same = λ _. put }
left-by status texts calls (Some m) old new is put =
    record { runs = λ _. subst (λ (d : Disks). AreRestarted texts calls d.before d.after) (sym put) is.1; same = λ other. absurd (other is.0) }

module _ {K : Type 0} (wrote : K → List ℕ → Type 0) (a b : K) (checks : List CheckParts) (asked : Restart) (input : List ℕ) (old new : Option (List ℕ)) (disks left : Disks) (ended : Ended)
    (takes : TakesAll old new input) (ends : EndsInput checks asked input ended) (put : MatchOption ended.disks (left ≡ disks) (λ (m : Disks). left ≡ m)) where
  abbrev answer : Answer
  answer = restart_answer ends.saying checks asked input

  are-left : AreLeft answer.status (texts_in (run ends.saying checks input).world asked.log) asked.calls disks left
  are-left = left-by answer.status (texts_in (run ends.saying checks input).world asked.log) asked.calls ended.disks disks left ends.ends.made put

  pub restart-whole : Appended wrote a b (written_of ended.answer) → RestartWhole checks asked old new wrote a b disks left ended.answer.status
  restart-whole written = record {
    input = input;
    saying = ends.saying;
    taken = takes;
    written = (ap (λ (x : Answer). x.status) ends.ends.answered, subst (λ (x : Answer). Appended wrote a b (written_of x)) ends.ends.answered written);
    disks_are = are-left;
    safe = λ _. safe-run ends.saying checks input;
  }

  pub restart-front : AppendedFront wrote a b (written_of ended.answer) → RestartFront checks asked old new wrote a b disks left
  restart-front written = record {
    input = input;
    saying = ends.saying;
    taken = takes;
    written = subst (λ (x : Answer). AppendedFront wrote a b (written_of x)) ends.ends.answered written;
    disks_are = are-left;
    safe = λ _. safe-run ends.saying checks input;
  }

  pub restart-kept : ended.answer.status ≢ 0 → left ≡ disks
  restart-kept other = are-left.same (λ nothing. other (ap (λ (x : Answer). x.status) ends.ends.answered ∙ nothing))

pub ruleset run_laws = (restart-whole, restart-front, restart-kept)
