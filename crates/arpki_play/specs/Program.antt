-- What a run of the program takes of its source, and what it writes to its sink.
use Rattle.std.specs.Prelude.{◌≡◌, ◌⊎◌, ℕ, List, [], ◌∷◌, Option, Some, None, Vec}
use Rattle.std.specs.declared.alloc.Global.{Global}
use Rattle.ar_io.specs.Wrote.{Appended, AppendedFront, Unchanged}
use Rattle.ar_run.specs.Answers.{Answer, written_of}
use Rattle.ar_run.specs.Runs as runs
use Rattle.script_play.specs.ar_nodes.Parties.{CheckParts}
use Rattle.script_play.specs.ar_world.Run.{Saying, run}
use Rattle.run_restart.specs.run_safety.Headline.{IsSafeRun}
use Rattle.script_make.specs.Script.{script}
use Rattle.script_play.specs.Played.{IsAnswered, PlaysFront, PlaysWhole, run_with}
use Rattle.arpki_ask.specs.Answers.{answer_to}
use Rattle.log_restart.specs.declared.disks.Disks.{Disks}
use Rattle.review.specs.Answers as reviews
use Rattle.run_restart.specs.Answers.{RestartFront, RestartWhole}
use Rattle.arpki_play.specs.Made.{made_answer, made_of}
use Rattle.arpki_play.specs.Words.{usage}
use Rattle.arpki_play.specs.declared.request.Request.{Request}
use Rattle.arpki_play.specs.declared.request.Request.TheVariants as requests

-- The script for so many domains was played, and its summary was written whole; its run is safe.
pub record RunsWhole {K : Type 0} (checks : List CheckParts) (domains : ℕ) (wrote : K → List ℕ → Type 0) (sink written : K) (status : ℕ) : Type 0 where
  pub saying : Saying
  pub answered : IsAnswered (made_answer saying checks domains) wrote sink written status
  pub safe : IsSafeRun (run saying checks (script domains))

-- A script for so many domains was played: the line and the status are those of its summary, or of the line that is refused.
pub record Sums (checks : List CheckParts) (domains : ℕ) (text : List ℕ) (told : Vec ℕ Global × ℕ) : Type 0 where
  pub saying : Saying
  pub is : made_of saying checks domains text ≡ record { lines = told.0.items ∷ []; status = told.1 }

-- A command took its input, its answer to it was written whole, and the status is the answer's; so did a review, `play`, whose run
-- is safe, and `restart`, whose run is safe and whose two disks became these. A script, its summary and the usage line take no
-- input: the script was written whole, with status 0, and the usage line where the words are of no form.
abbrev pub Answers : {K : Type 0} → List CheckParts → Option Request → Option (List ℕ) → Option (List ℕ) → (K → List ℕ → Type 0) → K → K → Disks → Disks → ℕ → Type 0
Answers checks (Some (requests.Answer command)) old new wrote sink written disks left status = runs.Answers (answer_to command) old new wrote sink written status
Answers checks (Some (requests.Make domains)) old new wrote sink written disks left status = (status ≡ 0) × Appended wrote sink written (script domains)
Answers checks (Some requests.Play) old new wrote sink written disks left status = PlaysWhole (run_with checks) IsSafeRun old new wrote sink written status
Answers checks (Some (requests.Restart asked)) old new wrote sink written disks left status = RestartWhole checks asked old new wrote sink written disks left status
Answers checks (Some (requests.Review review)) old new wrote sink written disks left status = runs.Answers (reviews.answer_to review) old new wrote sink written status
Answers checks (Some (requests.Run domains)) old new wrote sink written disks left status = RunsWhole checks domains wrote sink written status
Answers checks None old new wrote sink written disks left status = IsAnswered usage wrote sink written status

-- The script for so many domains was played, and of its summary a front was written, and not all; its run is safe.
pub record RunsFront {K : Type 0} (checks : List CheckParts) (domains : ℕ) (wrote : K → List ℕ → Type 0) (sink written : K) : Type 0 where
  pub saying : Saying
  pub front : AppendedFront wrote sink written (written_of (made_answer saying checks domains))
  pub safe : IsSafeRun (run saying checks (script domains))

-- A command, a review or `restart` took its input, and of its answer to it, of the script, its summary or the usage line a front was
-- written, and not all; the run of `restart` is safe, and its two disks became these. Of what `play` answers a front was written, or
-- all, and its run is safe.
abbrev pub BreaksOff : {K : Type 0} → List CheckParts → Option Request → Option (List ℕ) → Option (List ℕ) → (K → List ℕ → Type 0) → K → K → Disks → Disks → Type 0
BreaksOff checks (Some (requests.Answer command)) old new wrote sink written disks left = runs.BreaksOff (answer_to command) old new wrote sink written
BreaksOff checks (Some (requests.Make domains)) old new wrote sink written disks left = AppendedFront wrote sink written (script domains)
BreaksOff checks (Some requests.Play) old new wrote sink written disks left = PlaysFront (run_with checks) IsSafeRun old new wrote sink written
BreaksOff checks (Some (requests.Restart asked)) old new wrote sink written disks left = RestartFront checks asked old new wrote sink written disks left
BreaksOff checks (Some (requests.Review review)) old new wrote sink written disks left = runs.BreaksOff (reviews.answer_to review) old new wrote sink written
BreaksOff checks (Some (requests.Run domains)) old new wrote sink written disks left = RunsFront checks domains wrote sink written
BreaksOff checks None old new wrote sink written disks left = AppendedFront wrote sink written (written_of usage)

-- Memory ran out: nothing was written, but of what `play` answers a front.
abbrev pub Stops : {K : Type 0} → List CheckParts → Option Request → Option (List ℕ) → Option (List ℕ) → (K → List ℕ → Type 0) → K → K → Type 0
Stops checks (Some (requests.Answer command)) old new wrote sink written = Unchanged wrote sink written
Stops checks (Some (requests.Make domains)) old new wrote sink written = Unchanged wrote sink written
Stops checks (Some requests.Play) old new wrote sink written = Unchanged wrote sink written ⊎ PlaysFront (run_with checks) IsSafeRun old new wrote sink written
Stops checks (Some (requests.Restart asked)) old new wrote sink written = Unchanged wrote sink written
Stops checks (Some (requests.Review review)) old new wrote sink written = Unchanged wrote sink written
Stops checks (Some (requests.Run domains)) old new wrote sink written = Unchanged wrote sink written
Stops checks None old new wrote sink written = Unchanged wrote sink written
