-- What the program `arpki_crowd` answers to words and an input.
use Rattle.std.specs.Prelude.{◌≡◌, ◌⊎◌, ◌<◌, ◌≤◌, ℕ, if◌then◌else◌, List, [], ◌∷◌, codes, map, Option, Some, None, option_map, String, string_bytes}
use Rattle.std.specs.Str.{bytes_eq}
use Rattle.std.specs.declared.alloc.Global.{Global}
use Rattle.ar_io.specs.Wrote.{Appended, AppendedFront, Unchanged}
use Rattle.ar_lines.specs.Forms.{number_in}
use Rattle.script_play.specs.ar_nodes.Parties.{CheckParts}
use Rattle.ar_run.specs.Answers.{Answer, one_line, written_of}
use Rattle.crowd_run.specs.Scripts.{crowd_with}
use Rattle.crowd_run.specs.declared.request.Request.{Request}
use Rattle.crowd_run.specs.declared.request.Request.TheVariants.{Crowd, Serve}
use Rattle.run_safety.specs.Headline.{IsSafeRun}
use Rattle.script_play.specs.Played.{PlaysFront, PlaysWhole}
use Rattle.serve_run.specs.Answers.{ServesFront, ServesWhole}

-- ---- words

-- how many workers a word says
abbrev pub workers_of : List ℕ → Option ℕ
workers_of word = number_in 1 16 word

-- what the words ask for, where they are of a form: `crowd` or `serve`, and a number of workers
abbrev pub request_of : List (List ℕ) → Option Request
request_of [] = None
request_of (name ∷ []) = None
request_of (name ∷ number ∷ []) =
    if bytes_eq name (codes "crowd") then option_map Crowd (workers_of number) else
    (if bytes_eq name (codes "serve") then option_map Serve (workers_of number) else None)
request_of (name ∷ number ∷ next ∷ more) = None

-- the number of workers is from 1 to 16
abbrev pub HasWorkers : Request → Type 0
HasWorkers (Crowd workers) = (0 < workers) × (workers ≤ 16)
HasWorkers (Serve workers) = (0 < workers) × (workers ≤ 16)

-- the bytes of each word
abbrev pub texts : List (String Global) → List (List ℕ)
texts words = map string_bytes words

-- the words are of no form: the usage line
abbrev pub usage : Answer
usage = one_line (codes "usage: arpki_crowd crowd|serve <workers>") 2

-- ---- a run of the program

-- What was written whole, and the status: what `crowd` writes of a run of the script that was taken, in some ways, each burst of which
-- ends in orders that are interleavings of the workers' lists; an answer of `serve`; or the usage line. The run is safe.
abbrev pub Answers : {K : Type 0} → List CheckParts → Option Request → Option (List ℕ) → Option (List ℕ) → (K → List ℕ → Type 0) → K → K → ℕ → Type 0
Answers checks (Some (Crowd workers)) old new wrote sink written status = PlaysWhole (crowd_with workers checks) IsSafeRun old new wrote sink written status
Answers checks (Some (Serve workers)) old new wrote sink written status = ServesWhole workers old new wrote sink written status
Answers checks None old new wrote sink written status = (status ≡ 2) × Appended wrote sink written (written_of usage)

-- A write failed, and a front of it was written; of what `crowd` writes, perhaps all.
abbrev pub BreaksOff : {K : Type 0} → List CheckParts → Option Request → Option (List ℕ) → Option (List ℕ) → (K → List ℕ → Type 0) → K → K → Type 0
BreaksOff checks (Some (Crowd workers)) old new wrote sink written = PlaysFront (crowd_with workers checks) IsSafeRun old new wrote sink written
BreaksOff checks (Some (Serve workers)) old new wrote sink written = ServesFront workers old new wrote sink written
BreaksOff checks None old new wrote sink written = AppendedFront wrote sink written (written_of usage)

-- Memory ran out: nothing was written, but of what `crowd` writes a front.
abbrev pub Stops : {K : Type 0} → List CheckParts → Option Request → Option (List ℕ) → Option (List ℕ) → (K → List ℕ → Type 0) → K → K → Type 0
Stops checks (Some (Crowd workers)) old new wrote sink written =
    Unchanged wrote sink written ⊎ PlaysFront (crowd_with workers checks) IsSafeRun old new wrote sink written
Stops checks (Some (Serve workers)) old new wrote sink written = Unchanged wrote sink written
Stops checks None old new wrote sink written = Unchanged wrote sink written
