-- The text of an input of a log, as its journal has it.
use Rattle.std.specs.Prelude.{ℕ, ◌≤◌, ◌==◌, List, [], ◌∷◌, length, Option, None, Some, if◌then◌else◌}
use Rattle.std.specs.Option.{option_map}
use Rattle.ar_message.specs.Messages.{longest}
use Rattle.lms_tree.specs.PublicKey.{HasWidths, key_of_text, key_text}
use Rattle.log_core.specs.State.{Input, passes, proposes, rolls, takes}

-- the mark of a log's journal: "ARPKILG1"
abbrev pub mark : List ℕ
mark = 65 ∷ 82 ∷ 80 ∷ 75 ∷ 73 ∷ 76 ∷ 71 ∷ 49 ∷ []

-- 1 and the message, 2 to propose, 3 to state what the log did, or 4 and the key to which it goes on
abbrev pub input_text : Input → List ℕ
input_text (takes bytes) = 1 ∷ bytes
input_text proposes = 2 ∷ []
input_text passes = 3 ∷ []
input_text (rolls key) = 4 ∷ key_text key

-- this input, where nothing stands behind its kind
abbrev pub alone : List ℕ → Input → Option Input
alone [] input = Some input
alone (byte ∷ rest) input = None

-- the input whose kind and bytes these are
abbrev pub input_of_kind : ℕ → List ℕ → Option Input
input_of_kind kind rest =
    if kind == 1 then Some (takes rest)
    else (if kind == 2 then alone rest proposes else (if kind == 3 then alone rest passes
    else (if kind == 4 then option_map rolls (key_of_text rest) else None)))

-- what a text says
abbrev pub input_in : List ℕ → Option Input
input_in [] = None
input_in (kind ∷ rest) = input_of_kind kind rest

-- a message is not longer than a log takes
abbrev pub IsShortInput : Input → Type 0
IsShortInput (takes bytes) = length bytes ≤ longest
IsShortInput proposes = Unit {0}
IsShortInput passes = Unit {0}
IsShortInput (rolls key) = Unit {0}

-- an input as a program has it: a key has its widths
abbrev pub IsWhole : Input → Type 0
IsWhole (takes bytes) = Unit {0}
IsWhole proposes = Unit {0}
IsWhole passes = Unit {0}
IsWhole (rolls key) = HasWidths key
