-- What is written of a line is read as just that.
use Rattle.std.proofs.Common.{◌≡◌, ℕ, ◌+◌, true, List, ◌∷◌, ◌++◌, Option, Some, Ok, refl, ap}
use Rattle.std.specs.List.{list_all}
use Rattle.std.specs.Str.{bytes_eq}
use Rattle.std.proofs.lemmas.Slice.Eq.{bytes_eq-Decides}
use Rattle.ar_lines.specs.Lines.{is_text, words_of}
use Rattle.ar_lines.specs.Readings.{LineCursor, line_at, start_of_lines, word_at}
use Rattle.ar_lines.specs.Rows.{field_at, row_at, two_fields_at, value_at}
use Rattle.ar_lines.specs.Written.{text_of_lines}
use Rattle.ar_lines.proofs.TextLaws.{is_word, lines_of-text, text_joined, word_is_text, words_of-first, words_of-last}

-- a cursor before these lines, of which the first has this number
abbrev pub before : ℕ → List (List ℕ) → LineCursor
before next ahead = record { next = next; ahead = ahead }

-- lines of text are ahead of an input that they make
pub start_of-text : (lines : List (List ℕ)) → list_all is_text lines ≡ true → start_of_lines (text_of_lines lines) ≡ before 1 lines
start_of-text lines h = ap (before 1) (lines_of-text lines h)

pub word_reads : {T : Type 0} (form : List ℕ → Option T) (next : ℕ) (line : List ℕ) (ahead : List (List ℕ)) (value : T) → form line ≡ Some value → word_at form (before next (line ∷ ahead)) ≡ Ok (value, before (next + 1) ahead)
unfolding word_at line_at
word_reads form next line ahead value h = rw h refl

-- ---- named lines

pub named_is_text : (name field : List ℕ) → is_word name ≡ true → is_word field ≡ true → is_text (name ++ (32 ∷ field)) ≡ true
named_is_text name field n f = text_joined name field (word_is_text name n) (word_is_text field f)

pub row_reads : (name rest : List ℕ) (next : ℕ) (ahead : List (List ℕ)) → is_word name ≡ true → is_text rest ≡ true → row_at name (before next ((name ++ (32 ∷ rest)) ∷ ahead)) ≡ Ok (record { line = next; fields = words_of rest }, before (next + 1) ahead)
unfolding row_at line_at
row_reads name rest next ahead n r =
    let same : bytes_eq name name ≡ true = (bytes_eq-Decides name name).1 refl in
    rw (text_joined name rest (word_is_text name n) r, words_of-first name rest n, same) refl

pub field_reads : (name field : List ℕ) (next : ℕ) (ahead : List (List ℕ)) → is_word name ≡ true → is_word field ≡ true → field_at name (before next ((name ++ (32 ∷ field)) ∷ ahead)) ≡ Ok (record { line = next; number = 1; text = field }, before (next + 1) ahead)
unfolding field_at
field_reads name field next ahead n f =
    rw (row_reads name field next ahead n (word_is_text field f), words_of-last field f) refl

pub two_fields_read : (name first second : List ℕ) (next : ℕ) (ahead : List (List ℕ)) → is_word name ≡ true → is_word first ≡ true → is_word second ≡ true → two_fields_at name (before next ((name ++ (32 ∷ (first ++ (32 ∷ second)))) ∷ ahead)) ≡ Ok ((record { line = next; number = 1; text = first }, record { line = next; number = 2; text = second }), before (next + 1) ahead)
unfolding two_fields_at
two_fields_read name first second next ahead n f s =
    rw (row_reads name (first ++ (32 ∷ second)) next ahead n (named_is_text first second f s), words_of-first first second f, words_of-last second s) refl

pub value_reads : {T : Type 0} (name word : List ℕ) (form : List ℕ → Option T) (value : T) (next : ℕ) (ahead : List (List ℕ)) → is_word name ≡ true → is_word word ≡ true → form word ≡ Some value → value_at name form (before next ((name ++ (32 ∷ word)) ∷ ahead)) ≡ Ok (value, before (next + 1) ahead)
unfolding value_at
value_reads name word form value next ahead n w h = rw (field_reads name word next ahead n w, h) refl
