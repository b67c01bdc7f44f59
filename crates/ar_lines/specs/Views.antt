-- Words and rows that are read in place, as contracts see them.
use Rattle.std.specs.Prelude.{ℕ, List, [], Option, Some, None}
use Rattle.std.specs.Option.{option_copied}
use Rattle.ar_lines.specs.Lines.{parts_of}
use Rattle.ar_lines.specs.Rows.{NamedLine}
use Rattle.ar_lines.specs.declared.lines.RowText.{RowText}

-- the parts of what stands behind a part and the byte that ends it, where there is something
abbrev pub parts_behind : ℕ → Option (List ℕ) → List (List ℕ)
parts_behind mark None = []
parts_behind mark (Some text) = parts_of mark text

-- the words of what stands behind a word and its space
abbrev pub words_behind : Option (List ℕ) → List (List ℕ)
words_behind = parts_behind 32

-- the row that is viewed
abbrev pub row_in : RowText → NamedLine
row_in row = record { line = row.line; fields = words_behind (option_copied row.behind) }
