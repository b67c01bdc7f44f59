-- How many parts a word has, and a text words.
use Rattle.std.proofs.Common.{◌≡◌, ℕ, ◌+◌, ◌≤◌, ◌==◌, refl, arith, List, ◌∷◌, length, None}
use Rattle.std.proofs.lemmas.List.Splits.{length-slice_split}
use Rattle.std.proofs.lemmas.List.Sums.{count_by-le-length}
use Rattle.ar_lines.proofs.LineLaws.{parts_some}
use Rattle.ar_lines.specs.Lines.{parts_of, words_of}
use Rattle.script_text.specs.Forms.{three_numbers_of}

-- a fourth part is one too many
pub more_than_three : (message from to more : List ℕ) → three_numbers_of (message ∷ from ∷ to ∷ parts_of 58 more) ≡ None
more_than_three message from to more =
    let some = parts_some 58 more in
    rw some.2 refl

-- a text has a word more than spaces
pub words_counted : (text : List ℕ) → length (words_of text) ≤ length text + 1
unfolding parts_of
words_counted text =
    let count = length-slice_split (λ byte. byte == 32) text in
    let most = count_by-le-length (λ byte. byte == 32) text in
    omega arith
