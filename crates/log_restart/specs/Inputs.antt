-- The inputs of a log, as its journal has them.
use Rattle.std.specs.Prelude.{ℕ, ◌+◌, List, length, map, sum_by}
use Rattle.log_core.specs.Inputs.{input_of}
use Rattle.log_core.specs.declared.step.LogInput.{LogInput}
use Rattle.log_journal.specs.Inputs.{input_text}

-- the text of an input
abbrev pub text_of : LogInput → List ℕ
text_of input = input_text (input_of input)

-- those of inputs
abbrev pub texts_of : List LogInput → List (List ℕ)
texts_of inputs = map text_of inputs

-- how many bytes texts have together
abbrev pub total_len : List (List ℕ) → ℕ
total_len texts = sum_by (λ text. length text) texts

-- the most bytes that the texts of inputs have together
abbrev pub most_input_bytes : ℕ
most_input_bytes = 268435456

-- how many bytes a record takes of a disk: the text, its length in four bytes, and a gate that is written closed and then open
abbrev pub record_cost : List ℕ → ℕ
record_cost text = length text + 6

-- how many those of texts take
abbrev pub records_cost : List (List ℕ) → ℕ
records_cost texts = sum_by record_cost texts
