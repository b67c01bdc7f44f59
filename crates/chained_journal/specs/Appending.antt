-- What is put behind the shut gate.
use Rattle.std.specs.Prelude.{ℕ, List, ◌++◌, length}
use Rattle.chained_journal.specs.Journal.{filling, head, record_text, shut_gate}

-- what a record begins with: head, text, and zeros to a multiple of 8
abbrev pub staged_front : List ℕ → List ℕ
staged_front text = head (length text) ++ (text ++ filling (length text))

-- the record behind texts with this chain, and the gate of the next one, which is shut
abbrev pub staged_text : List ℕ → List ℕ → List ℕ
staged_text chain text = record_text chain text ++ shut_gate
