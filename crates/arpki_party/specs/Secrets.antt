-- What a secret's file says.
use Rattle.std.specs.Prelude.{ℕ, List, [], ◌∷◌, Option, None, Some, Result, Ok, option_and_then, option_map}
use Rattle.ar_founding.specs.FirstKeys.{Setup, plain_setup}
use Rattle.ar_lines.specs.Lines.{parts_of}
use Rattle.ar_lines.specs.declared.refusal.Reason.{Reason}
use Rattle.lm_ots.specs.OtsKind.{type_of_number}
use Rattle.lms_tree.specs.Key.{type_to_make}
use Rattle.script_text.specs.Rows.{read_of}
use Rattle.script_text.specs.declared.line.Line.{Line}
use Rattle.script_text.specs.declared.line.Line.TheVariants as lines
use Rattle.script_text.specs.declared.line.SetupLine.TheVariants as setup
use Rattle.arpki_party.specs.declared.secret.Said.{Said}

-- nothing is said
abbrev pub nothing_said : Said
nothing_said = record { secret = None; types = None }

-- this is said, where nothing was before
abbrev pub once : {T : Type 0} → Option T → T → Option (Option T)
once None value = Some (Some value)
once (Some before) value = None

-- What is said with one line more, as it is read: a secret or the types of keys, each once. A line that is skipped says nothing, and any
-- other is none of a secret's file.
abbrev pub with_line : Said → Result (Option Line) Reason → Option Said
with_line said (Ok None) = Some said
with_line said (Ok (Some (lines.Setup (setup.Secret secret)))) = option_map (λ it. record said { secret = it }) (once said.secret secret)
with_line said (Ok (Some (lines.Setup (setup.Keys lms ots)))) = option_map (λ it. record said { types = it }) (once said.types (lms, ots))
with_line said line = None

-- with all of these
abbrev pub with_lines : Said → List (List ℕ) → Option Said
with_lines said [] = Some said
with_lines said (line ∷ more) = option_and_then (λ next. with_lines next more) (with_line said (read_of line))

-- the setup of that: the types are those of the kinds 5 and 3 where none are said
abbrev pub with_types : Setup → Option (ℕ × ℕ) → Option Setup
with_types setup None = Some setup
with_types setup (Some types) =
    option_and_then (λ lms. option_map (λ ots. record setup { lms = lms; ots = ots }) (type_of_number types.1)) (type_to_make types.0)

abbrev pub setup_of : Said → Option Setup
setup_of said = option_and_then (λ secret. with_types (record plain_setup { secret = secret }) said.types) said.secret

-- What the text says, which is one line `secret`, and one line `keys` or none, in either order, beside lines that are skipped.
abbrev pub secret_said : List ℕ → Option Setup
secret_said text = option_and_then setup_of (with_lines nothing_said (parts_of 10 text))
