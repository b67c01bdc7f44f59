-- What a reader of lines holds, and what comes to it.
use Rattle.std.specs.Prelude.{◌≡◌, ℕ, ◌<◌, ◌≤◌, Bool, true, false, List, ◌++◌, length, Option}
use Rattle.std.specs.Io.KnownBytes.{IsAtEnd}
use Rattle.desk_run.specs.Answers.{longest_line}
use Rattle.desk_run.specs.Lines.{CutsAt, IsUncut}

-- the line that came last, or its front; whether it is too long; and what was read behind it
pub record ReaderParts : Type 0 where
  pub line : List ℕ
  pub long : Bool
  pub ahead : List ℕ

-- what is held of the front of a line that was passed: all of it, unless it is too long already
abbrev pub Passed : Bool → List ℕ → List ℕ → Type 0
Passed false held front = (held ≡ front) × (length front ≤ longest_line)
Passed true held front = longest_line < length front

-- of the line that comes so much more was passed
abbrev pub PassesOn : ReaderParts → ReaderParts → List ℕ → Type 0
PassesOn old new more = (front : List ℕ) → Passed old.long old.line front → Passed new.long new.line (front ++ more)

-- what came of a text that was read, where a line came and where none did, and what is left
abbrev pub Comes : Bool → List ℕ → ReaderParts → Option (List ℕ) → Type 0
Comes true text reader left = (line : List ℕ) × (CutsAt text line reader.ahead × Passed reader.long reader.line line)
Comes false text reader left = IsUncut text × IsAtEnd left
