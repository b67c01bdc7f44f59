-- The lines of an input, and the words of a line.
use Rattle.std.specs.Prelude.{ℕ, ◌==◌, Bool, List, [], ◌∷◌}
use Rattle.std.specs.List.{list_all, slice_split}
use Rattle.ar_base.specs.Ranges.{is_from_to}

-- the parts of a text, which is cut at each byte of this value
unfoldable pub parts_of : ℕ → List ℕ → List (List ℕ)
parts_of mark text = slice_split (λ byte. byte == mark) text

-- a piece after the last newline is a line where it is not empty
abbrev pub last_line : List ℕ → List (List ℕ)
last_line [] = []
last_line (byte ∷ piece) = (byte ∷ piece) ∷ []

-- the lines in the pieces between newlines
abbrev pub lines_of_pieces : List (List ℕ) → List (List ℕ)
lines_of_pieces [] = []
lines_of_pieces (piece ∷ []) = last_line piece
lines_of_pieces (piece ∷ next ∷ more) = piece ∷ lines_of_pieces (next ∷ more)

-- the lines of an input, which is cut at its newlines
unfoldable pub lines_of : List ℕ → List (List ℕ)
lines_of input = lines_of_pieces (parts_of 10 input)

-- whether a byte is a character of text: a space, or an ASCII character that is printed
abbrev pub is_text_byte : ℕ → Bool
is_text_byte byte = is_from_to 0x20 0x7e byte

-- whether a line is text
abbrev pub is_text : List ℕ → Bool
is_text line = list_all is_text_byte line

-- the words of a line, which is cut at each space; two spaces make an empty word
abbrev pub words_of : List ℕ → List (List ℕ)
words_of = parts_of 32
