-- What a command answers, where nothing fails.
use Rattle.std.specs.Prelude.{ℕ, List, [], ◌∷◌, ◌++◌, Vec}
use Rattle.std.specs.declared.alloc.Global.{Global}
use Rattle.std.specs.List.{concat}

-- the lines that are written, each with the newline that ends it, and the status, which is 0 to 3
pub record Answer : Type 0 where
  pub lines : List (List ℕ)
  pub status : ℕ

-- the bytes of a line
abbrev pub bytes_of : Vec ℕ Global → List ℕ
bytes_of line = line.items

-- a line of this text, with its newline
abbrev pub line_of : List ℕ → List ℕ
line_of text = text ++ (10 ∷ [])

-- the answer of one line
abbrev pub one_line : List ℕ → ℕ → Answer
one_line text status = record { lines = line_of text ∷ []; status = status }

-- all that is written of an answer
abbrev pub written_of : Answer → List ℕ
written_of answer = concat answer.lines
