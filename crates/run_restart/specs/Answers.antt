-- What `restart` answers, and what a run of it takes of its source, writes to its sink and leaves on the two disks.
use Rattle.std.specs.Prelude.{◌≡◌, ◌≢◌, ℕ, ◌+◌, ◌≤◌, nat_lt, if◌then◌else◌, List, [], ◌∷◌, ◌++◌, codes, length, Option, None, Some}
use Rattle.std.specs.Fmt.{decimal}
use Rattle.hex.specs.Hex.{encode_lower}
use Rattle.ar_io.specs.Wrote.{Appended, AppendedFront}
use Rattle.ar_lines.specs.Lines.{lines_of}
use Rattle.script_play.specs.ar_nodes.Parties.{CheckParts, LogNode}
use Rattle.script_play.specs.ar_nodes.declared.fault.WorldFault.TheVariants.{Absent, Limit}
use Rattle.ar_run.specs.Answers.{Answer, written_of}
use Rattle.ar_run.specs.Runs.{TakesAll, most_read_bytes}
use Rattle.script_play.specs.ar_world.Finding.{log_at}
use Rattle.script_play.specs.ar_world.Run.{Run, Saying, refused_text, run}
use Rattle.script_play.specs.ar_world.State.{World}
use Rattle.script_play.specs.ar_world.declared.cause.Cause.{Cause}
use Rattle.script_play.specs.ar_world.declared.cause.Cause.TheVariants.{Untaken}
use Rattle.arpki_ask.specs.Answers.{unless_long}
use Rattle.key_roll.specs.Book.{RollBook}
use Rattle.log_restart.specs.Inputs.{most_input_bytes, total_len}
use Rattle.log_restart.specs.Restarted.{AreRestarted, recovered_of, told_of}
use Rattle.log_restart.specs.declared.disks.Disks.{Disks}
use Rattle.log_restart.specs.declared.told.RestartReport.{RestartReport}
use Rattle.run_replays.specs.run_safety.Headline.{IsSafeRun}
use Rattle.run_restart.specs.Asking.{texts_in, texts_of_log}
use Rattle.run_restart.specs.declared.command.Restart.{Restart}

-- ---- lines

-- which log restarted, how many calls of its first disk passed, how many of how many inputs were recovered, how many statements it
-- has signed in the end, and their digest; a line with its newline
abbrev pub restart_line : Restart → RestartReport → List ℕ
restart_line asked told =
    codes "restart L" ++ (decimal asked.log ++ (codes " after " ++ (decimal asked.calls ++ (codes " recovered " ++ (decimal told.recovered
    ++ (codes " of " ++ (decimal told.inputs ++ (codes " signed " ++ (decimal told.signed ++ (codes " " ++ (encode_lower told.digest ++ codes "\n")))))))))))

-- a line of the script is refused
abbrev pub refusing : ℕ × Cause → Answer
refusing refusal = record { lines = refused_text refusal ∷ []; status = 3 }

-- what is told of a log with these texts that has signed the statements of this book in the end: by its journal as many inputs are
-- recovered as have their four calls of the disk among those that pass
abbrev pub telling : Restart → List (List ℕ) → RollBook → Answer
telling asked texts book =
    record { lines = restart_line asked (told_of (recovered_of (length texts) asked.calls) (length texts) book) ∷ []; status = 0 }

-- the same, unless the texts have too many bytes together, which is refused in the line with this number
abbrev pub telling_few : Restart → ℕ → List (List ℕ) → RollBook → Answer
telling_few asked behind texts book =
    if nat_lt most_input_bytes (total_len texts) then refusing (behind, Untaken Limit) else telling asked texts book

-- what is told of the log that was asked for, unless it is not honest or not there
abbrev pub telling_log : Restart → ℕ → World → Option LogNode → Answer
telling_log asked behind w None = refusing (behind, Untaken (Absent 1))
telling_log asked behind w (Some node) = telling_few asked behind (texts_of_log w asked.log (Some node)) node.core.log.past.signed

-- what is told of a script that was played, where no line of it was refused, and else that line
abbrev pub telling_played : Restart → ℕ → World → Option (ℕ × Cause) → Answer
telling_played asked behind w None = telling_log asked behind w (log_at w asked.log)
telling_played asked behind w (Some refusal) = refusing refusal

-- ---- answers

-- the number of the line behind the last of an input
abbrev pub line_behind : List ℕ → ℕ
line_behind input = length (lines_of input) + 1

-- what is answered where the run of a script came to this
abbrev pub restarted : Restart → List ℕ → Run → Answer
restarted asked script r = telling_played asked (line_behind script) r.world r.refused

-- what is answered to an input
abbrev pub restart_answer : Saying → List CheckParts → Restart → List ℕ → Answer
restart_answer saying checks asked input = unless_long input (restarted asked input (run saying checks input))

-- ---- a run of the command

-- The two disks behind an answer with this status: at 0 those of the two runs of a log through these texts, with so many calls that
-- pass, and else as they were.
pub record AreLeft (status : ℕ) (texts : List (List ℕ)) (calls : ℕ) (old new : Disks) : Type 0 where
  pub runs : status ≡ 0 → AreRestarted texts calls new.before new.after
  pub same : status ≢ 0 → new ≡ old

-- The input was taken, and this holds of its answer, by some answers of the checks that tell nothing of themselves. The disks are
-- those of the answer, and its run is safe.
pub record RestartTakes (checks : List CheckParts) (asked : Restart) (old new : Option (List ℕ)) (disks left : Disks) (IsWritten : Answer → Type 0) : Type 0 where
  pub input : List ℕ
  pub saying : Saying
  pub taken : TakesAll old new input
  pub written : IsWritten (restart_answer saying checks asked input)
  pub disks_are : AreLeft (restart_answer saying checks asked input).status (texts_in (run saying checks input).world asked.log) asked.calls disks left
  pub safe : length input ≤ most_read_bytes → IsSafeRun (run saying checks input)

-- The answer was written whole, and the status is its own.
abbrev pub RestartWhole : {K : Type 0} → List CheckParts → Restart → Option (List ℕ) → Option (List ℕ) → (K → List ℕ → Type 0) → K → K → Disks → Disks → ℕ → Type 0
RestartWhole checks asked old new wrote sink written disks left status =
    RestartTakes checks asked old new disks left (λ answer. (status ≡ answer.status) × Appended wrote sink written (written_of answer))

-- Of the answer a front was written, and not all.
abbrev pub RestartFront : {K : Type 0} → List CheckParts → Restart → Option (List ℕ) → Option (List ℕ) → (K → List ℕ → Type 0) → K → K → Disks → Disks → Type 0
RestartFront checks asked old new wrote sink written disks left =
    RestartTakes checks asked old new disks left (λ answer. AppendedFront wrote sink written (written_of answer))
