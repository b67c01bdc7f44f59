-- What the words ask for that the program is called with, and what it writes and leaves.
use Rattle.std.specs.Prelude.{◌≡◌, ℕ, List, [], ◌∷◌, codes, map, Option, Some, None, String, string_bytes}
use Rattle.std.specs.declared.alloc.Global.{Global}
use Rattle.ar_io.specs.Wrote.{Appended, AppendedFront}
use Rattle.ar_run.specs.Answers.{Answer, one_line, written_of}
use Rattle.ar_run.specs.Runs as runs
use Rattle.arpki_ask.specs.Answers.{answer_to}
use Rattle.arpki_ask.specs.Commands.{command_named}
use Rattle.arpki_ask.specs.declared.command.Command.{Command}

-- the bytes of each word behind the program's name
abbrev pub texts : List (String Global) → List (List ℕ)
texts words = map string_bytes words

-- the command that the words name, where they are of this form: it is the only word
abbrev pub command_of : List (List ℕ) → Option Command
command_of [] = None
command_of (name ∷ []) = command_named name
command_of (name ∷ next ∷ more) = None

-- the words are of no form: the usage line
abbrev pub usage : Answer
usage = one_line (codes "usage: arpki_answer check | sig") 2

-- The command took its input, its answer to it was written whole, and the status is the answer's. The usage line, where the words are
-- of no form, takes no input.
abbrev pub Answers : {K : Type 0} → Option Command → Option (List ℕ) → Option (List ℕ) → (K → List ℕ → Type 0) → K → K → ℕ → Type 0
Answers (Some command) old new wrote sink written status = runs.Answers (answer_to command) old new wrote sink written status
Answers None old new wrote sink written status = (status ≡ usage.status) × Appended wrote sink written (written_of usage)

-- The command took its input, and of its answer to it, or of the usage line, a front was written, and not all.
abbrev pub BreaksOff : {K : Type 0} → Option Command → Option (List ℕ) → Option (List ℕ) → (K → List ℕ → Type 0) → K → K → Type 0
BreaksOff (Some command) old new wrote sink written = runs.BreaksOff (answer_to command) old new wrote sink written
BreaksOff None old new wrote sink written = AppendedFront wrote sink written (written_of usage)
