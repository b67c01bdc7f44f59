-- What a line is read as, by its words: the fields behind the first of them, in their order, each of its
-- form. The count of the words comes first, and then the leftmost word that is not of its form.
use Rattle.std.specs.Prelude.{ℕ, ◌+◌, ◌==◌, Bool, true, if◌then◌else◌, List, [], ◌∷◌, Option, Some, Result, Ok, Err}
use Rattle.std.specs.Option.{ok_or}
use Rattle.std.specs.Str.{bytes_eq}
use Rattle.std.specs.Result.{result_map_both}
use Rattle.ar_base.specs.Chaining.{◌>>=◌}
use Rattle.ar_lines.specs.declared.refusal.Reason.{Reason}
use Rattle.ar_lines.specs.declared.refusal.Reason.TheVariants.{Word, Words, Field}
use Rattle.script_text.specs.Forms.{asks_of, binding_of, is_piece, trusted_of}
use Rattle.ar_lines.specs.Forms.{number_in, number_of}
use Rattle.script_text.specs.declared.line.Line.{Line}
use Rattle.script_text.specs.declared.line.PolicyWords.{PolicyWords}

-- what a word of a form means
abbrev pub Form : Type 0 → Type 0
Form T = List ℕ → Option T

-- what the words behind the first of a line mean, or why they are refused
abbrev pub Fields : Type 0 → Type 0
Fields L = List (List ℕ) → Result L Reason

-- a row of the table of lines: the first word, and what the words behind it mean
pub record Row : Type 0 where
  pub word : List ℕ
  pub fields : Fields Line

-- a line of one kind, as a line
abbrev pub as_line : {L : Type 0} → (L → Line) → Result L Reason → Result Line Reason
as_line kind read = result_map_both kind (λ reason. reason) read

-- ---- so many words, and no others

abbrev pub no_words : List (List ℕ) → Result (Unit {0}) Reason
no_words [] = Ok tt
no_words (a ∷ more) = Err Words

abbrev pub one_word : List (List ℕ) → Result (List ℕ) Reason
one_word (a ∷ []) = Ok a
one_word words = Err Words

abbrev pub two_words : List (List ℕ) → Result (List ℕ × List ℕ) Reason
two_words (a ∷ b ∷ []) = Ok (a, b)
two_words words = Err Words

abbrev pub three_words : List (List ℕ) → Result (List ℕ × List ℕ × List ℕ) Reason
three_words (a ∷ b ∷ c ∷ []) = Ok (a, b, c)
three_words words = Err Words

abbrev pub four_words : List (List ℕ) → Result (List ℕ × List ℕ × List ℕ × List ℕ) Reason
four_words (a ∷ b ∷ c ∷ d ∷ []) = Ok (a, b, c, d)
four_words words = Err Words

abbrev pub five_words : List (List ℕ) → Result (List ℕ × List ℕ × List ℕ × List ℕ × List ℕ) Reason
five_words (a ∷ b ∷ c ∷ d ∷ e ∷ []) = Ok (a, b, c, d, e)
five_words words = Err Words

-- the five words of a policy
pub record PolicyFields : Type 0 where
  pub threshold : List ℕ
  pub binding : List ℕ
  pub max_age : List ℕ
  pub until : List ℕ
  pub trusted : List ℕ

-- two words, those of a policy, and one
abbrev pub policy_words : List (List ℕ) → Result (List ℕ × List ℕ × PolicyFields × List ℕ) Reason
policy_words (a ∷ b ∷ threshold ∷ binding ∷ max_age ∷ until ∷ trusted ∷ c ∷ []) =
    Ok (a, b, record { threshold = threshold; binding = binding; max_age = max_age; until = until; trusted = trusted }, c)
policy_words words = Err Words

-- one word, and one or more
abbrev pub some_words : List (List ℕ) → Result (List ℕ × List (List ℕ)) Reason
some_words (a ∷ b ∷ more) = Ok (a, b ∷ more)
some_words words = Err Words

-- ---- fields: so many words, each of its form, and what they mean together

-- no field
abbrev pub plain : {L : Type 0} → L → Fields L
plain line words = do
  none ← no_words words
  Ok line

-- one field
abbrev pub one : {A L : Type 0} → Form A → (A → L) → Fields L
one first meaning words = do
  word ← one_word words
  a ← ok_or (first word) (Field 1)
  Ok (meaning a)

-- two fields
abbrev pub two : {A B L : Type 0} → Form A → Form B → (A → B → L) → Fields L
two first second meaning words = do
  pair ← two_words words
  a ← ok_or (first pair.0) (Field 1)
  b ← ok_or (second pair.1) (Field 2)
  Ok (meaning a b)

-- two fields, where the first says of which form the second is
abbrev pub bound : {A B L : Type 0} → Form A → (A → Form B) → (A → B → L) → Fields L
bound first second meaning words = do
  pair ← two_words words
  a ← ok_or (first pair.0) (Field 1)
  b ← ok_or (second a pair.1) (Field 2)
  Ok (meaning a b)

-- three fields
abbrev pub three : {A B C L : Type 0} → Form A → Form B → Form C → (A → B → C → L) → Fields L
three first second third meaning words = do
  all ← three_words words
  a ← ok_or (first all.0) (Field 1)
  b ← ok_or (second all.1) (Field 2)
  c ← ok_or (third all.2) (Field 3)
  Ok (meaning a b c)

-- four fields
abbrev pub four : {A B C D L : Type 0} → Form A → Form B → Form C → Form D → (A → B → C → D → L) → Fields L
four first second third fourth meaning words = do
  all ← four_words words
  a ← ok_or (first all.0) (Field 1)
  b ← ok_or (second all.1) (Field 2)
  c ← ok_or (third all.2) (Field 3)
  d ← ok_or (fourth all.3) (Field 4)
  Ok (meaning a b c d)

-- five fields
abbrev pub five : {A B C D E L : Type 0} → Form A → Form B → Form C → Form D → Form E → (A → B → C → D → E → L) → Fields L
five first second third fourth fifth meaning words = do
  all ← five_words words
  a ← ok_or (first all.0) (Field 1)
  b ← ok_or (second all.1) (Field 2)
  c ← ok_or (third all.2) (Field 3)
  d ← ok_or (fourth all.3) (Field 4)
  e ← ok_or (fifth all.4) (Field 5)
  Ok (meaning a b c d e)

-- the fields of a policy, the words 3 to 7 of a line: the threshold, whether the domain is bound to its key and
-- the wait of a recovery, the greatest age of a confirmation, the last epoch, and the authorities
unfoldable pub policy_of : PolicyFields → Result PolicyWords Reason
policy_of words = do
  threshold ← ok_or (number_in 0 255 words.threshold) (Field 3)
  binding ← ok_or (binding_of words.binding) (Field 4)
  max_age ← ok_or (number_in 0 0xffff_ffff words.max_age) (Field 5)
  until ← ok_or (number_of words.until) (Field 6)
  trusted ← ok_or (trusted_of words.trusted) (Field 7)
  Ok (record { threshold = threshold; keyed = binding.0; max_age = max_age; until = until; trusted = trusted; wait = binding.1 })

-- two fields, those of a policy, and the authorities that are asked
abbrev pub policy : {A B L : Type 0} → Form A → Form B → (A → B → PolicyWords → List ℕ → L) → Fields L
policy first second meaning words = do
  all ← policy_words words
  a ← ok_or (first all.0) (Field 1)
  b ← ok_or (second all.1) (Field 2)
  terms ← policy_of all.2
  asks ← ok_or (asks_of all.3) (Field 8)
  Ok (meaning a b terms asks)

-- the words from the one with this number on are pieces; the first that is none is refused
abbrev pub are_pieces : ℕ → List (List ℕ) → Result (Unit {0}) Reason
are_pieces number [] = Ok tt
are_pieces number (word ∷ more) = if is_piece word then are_pieces (number + 1) more else Err (Field number)

-- one field, and pieces
abbrev pub pieces : {A L : Type 0} → Form A → (A → List (List ℕ) → L) → Fields L
pieces first meaning words = do
  all ← some_words words
  a ← ok_or (first all.0) (Field 1)
  right ← are_pieces 2 all.1
  Ok (meaning a all.1)

-- ---- lines

-- the line of this first word and those behind it, by the row that has the word
abbrev pub line_by : List Row → List ℕ → Fields Line
line_by [] word words = Err Word
line_by (row ∷ rows) word words = if bytes_eq word row.word then row.fields words else line_by rows word words

-- the line of these words
abbrev pub line_with : List Row → List (List ℕ) → Result Line Reason
line_with rows [] = Err Word
line_with rows (word ∷ words) = line_by rows word words

-- whether a line is skipped: it is empty, or begins with `#`
abbrev pub is_skipped : List ℕ → Bool
is_skipped [] = true
is_skipped (byte ∷ more) = byte == 35

-- a line that is not skipped
abbrev pub some_line : Result Line Reason → Result (Option Line) Reason
some_line read = result_map_both Some (λ reason. reason) read
