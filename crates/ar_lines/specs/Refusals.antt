-- How a refused line is told: its number, and why it is refused.
use Rattle.std.specs.Prelude.{ℕ, List, ◌++◌, codes, Result, Err}
use Rattle.std.specs.Fmt.{decimal}
use Rattle.ar_lines.specs.declared.refusal.Reason.{Reason}
use Rattle.ar_lines.specs.declared.refusal.Reason.TheVariants.{Limit, Text, Word, Words, Field}
use Rattle.ar_lines.specs.declared.refusal.Refusal.{Refusal}

-- a reason as it is written
abbrev pub reason_text : Reason → List ℕ
reason_text Limit = codes "limit"
reason_text Text = codes "text"
reason_text Word = codes "word"
reason_text Words = codes "words"
reason_text (Field k) = codes "field " ++ decimal k

-- what tells which line is refused, and why
abbrev pub refused_as : ℕ → List ℕ → List ℕ
refused_as line reason = codes "line " ++ (decimal line ++ (codes ": " ++ reason))

-- the same of a refusal
abbrev pub refusal_text : Refusal → List ℕ
refusal_text refusal = refused_as refusal.line (reason_text refusal.reason)

-- the refusal of a line
abbrev pub refused : {T : Type 0} → ℕ → Reason → Result T Refusal
refused line reason = Err (record { line = line; reason = reason })
