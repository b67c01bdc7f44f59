-- What is read of a line is read from the line that writes it, and from no other.
use Rattle.std.proofs.Common.{◌≡◌, ℕ, ◌+◌, Bool, true, false, cond, List, [], ◌∷◌, Option, Some, None, Result, Ok, Err, refl, sym, ap, ◌∙◌}
use Rattle.std.specs.List.{join_with_byte}
use Rattle.std.specs.Str.{bytes_eq}
use Rattle.std.proofs.lemmas.List.Splits.{join_with_byte-slice_split}
use Rattle.std.proofs.lemmas.Slice.Eq.{bytes_eq-Decides}
use Rattle.hex.specs.Hex.{encode_lower}
use Rattle.ar_base.proofs.Shown.{bind_ok, ok_is}
use Rattle.ar_lines.specs.Forms.{bytes_of_hex}
use Rattle.ar_lines.specs.Lines.{is_text, parts_of, words_of}
use Rattle.ar_lines.specs.Readings.{LineCursor, WordAt, line_at, next_of, no_line_of, spelled, word_at}
use Rattle.ar_lines.specs.Rows.{NamedLine, both_of, field_at, no_row_of, only_of, row_at, row_of, two_fields_at, value_at}
use Rattle.ar_lines.specs.Written.{WritesBack, named}
use Rattle.ar_lines.specs.declared.refusal.Refusal.{Refusal}
use Rattle.ar_lines.proofs.Respelled.{hex_own}

-- ---- steps that were not refused

abbrev pub done : {A : Type 0} → A → Result A Refusal
done x = Ok x

pub spelled_some : {T : Type 0} (word : WordAt) (o : Option T) (value : T) → spelled word o ≡ Ok value → o ≡ Some value
spelled_some word (Some x) value e = ap Some (ok_is x value e)
spelled_some word None value e = absurd cc

-- a line that was read was the next one
pub next_is : (next : ℕ) (lines : List (List ℕ)) (word : WordAt) (new : LineCursor) → next_of next lines ≡ Ok (word, new) → lines ≡ word.text ∷ new.ahead
next_is next [] word new h = absurd cc
next_is next (line ∷ ahead) word new h =
    let place : WordAt = record { line = next; number = 0; text = line } in
    let rest : LineCursor = record { next = next + 1; ahead = ahead } in
    ap (λ (x : WordAt × LineCursor). x.0.text ∷ x.1.ahead) (ok_is (place, rest) (word, new) h)

-- equal lines behind a line
pub behind : (line : List ℕ) {lines more : List (List ℕ)} → lines ≡ more → line ∷ lines ≡ line ∷ more
behind line e = ap (λ (l : List (List ℕ)). line ∷ l) e

-- ---- lines of one word

pub word_is : {T : Type 0} (form : List ℕ → Option T) (write : T → List ℕ) (at new : LineCursor) (value : T) → WritesBack form write → word_at form at ≡ Ok (value, new) → at.ahead ≡ write value ∷ new.ahead
unfolding word_at line_at
word_is {T = T} form write at new value writes h =
    let line = bind_ok (line_at at) _ (value, new) h in
    let read = bind_ok (spelled line.0.0 (form line.0.0.text)) _ (value, new) line.2 in
    let same = ok_is (read.0, line.0.1) (value, new) read.2 in
    let text = writes line.0.0.text read.0 (spelled_some line.0.0 (form line.0.0.text) read.0 read.1) in
    next_is at.next at.ahead line.0.0 line.0.1 line.1
    ∙ ap (λ (t : List ℕ). t ∷ line.0.1.ahead) (sym text)
    ∙ ap (λ (x : T × LineCursor). write x.0 ∷ x.1.ahead) same

pub no_line_is : (next : ℕ) (lines : List (List ℕ)) (end : Unit {0}) → no_line_of next lines ≡ Ok end → lines ≡ []
no_line_is next [] end h = refl
no_line_is next (line ∷ lines) end h = absurd cc

pub hex_writes : WritesBack bytes_of_hex encode_lower
hex_writes word bytes h = (hex_own word bytes h).0

-- ---- named lines

-- a test that was passed
passed : {A : Type 0} (test : Bool) (r : Result A Refusal) (refusal : Refusal) (y : A) → cond test r (Err refusal) ≡ Ok y → (test ≡ true) × (r ≡ Ok y)
passed true r refusal y e = (refl, e)
passed false r refusal y e = absurd cc

row_words : (name : List ℕ) (line : ℕ) (words : List (List ℕ)) (row : NamedLine) → row_of name line words ≡ Ok row → words ≡ name ∷ row.fields
row_words name line [] row h = absurd cc
row_words name line (word ∷ fields) row h =
    let read : NamedLine = record { line = line; fields = fields } in
    let parts = passed (bytes_eq word name) (done read) _ row h in
    let same : word ≡ name = (bytes_eq-Decides word name).0 parts.0 in
    ap (λ (w : List ℕ). w ∷ fields) same ∙ ap (λ (r : NamedLine). name ∷ r.fields) (ok_is read row parts.1)

-- the words of a line, joined by spaces, are the line
words_joined : (line : List ℕ) (words : List (List ℕ)) → words_of line ≡ words → line ≡ join_with_byte 32 words
unfolding parts_of
words_joined line words h = sym (join_with_byte-slice_split 32 line) ∙ ap (join_with_byte 32) h

pub row_is : (name : List ℕ) (at new : LineCursor) (row : NamedLine) → row_at name at ≡ Ok (row, new) → at.ahead ≡ join_with_byte 32 (name ∷ row.fields) ∷ new.ahead
unfolding row_at line_at
row_is name at new row h =
    let line = bind_ok (line_at at) _ (row, new) h in
    let text = line.0.0.text in
    let found = row_of name line.0.0.line (words_of text) in
    let read = bind_ok _ _ (row, new) line.2 in
    let words = row_words name line.0.0.line (words_of text) read.0 (passed (is_text text) found _ read.0 read.1).1 in
    next_is at.next at.ahead line.0.0 line.0.1 line.1
    ∙ ap (λ (t : List ℕ). t ∷ line.0.1.ahead) (words_joined text (name ∷ read.0.fields) words)
    ∙ ap (λ (x : NamedLine × LineCursor). join_with_byte 32 (name ∷ x.0.fields) ∷ x.1.ahead) (ok_is (read.0, line.0.1) (row, new) read.2)

only_is : (line : ℕ) (fields : List (List ℕ)) (word : WordAt) → only_of line fields ≡ Ok word → fields ≡ word.text ∷ []
only_is line [] word h = absurd cc
only_is line (field ∷ []) word h =
    let read : WordAt = record { line = line; number = 1; text = field } in
    ap (λ (w : WordAt). w.text ∷ []) (ok_is read word h)
only_is line (field ∷ next ∷ more) word h = absurd cc

both_are : (line : ℕ) (fields : List (List ℕ)) (words : WordAt × WordAt) → both_of line fields ≡ Ok words → fields ≡ words.0.text ∷ words.1.text ∷ []
both_are line [] words h = absurd cc
both_are line (first ∷ []) words h = absurd cc
both_are line (first ∷ second ∷ []) words h =
    let one : WordAt = record { line = line; number = 1; text = first } in
    let two : WordAt = record { line = line; number = 2; text = second } in
    ap (λ (w : WordAt × WordAt). w.0.text ∷ w.1.text ∷ []) (ok_is (one, two) words h)
both_are line (first ∷ second ∷ next ∷ more) words h = absurd cc

pub field_is : (name : List ℕ) (at new : LineCursor) (word : WordAt) → field_at name at ≡ Ok (word, new) → at.ahead ≡ named name word.text ∷ new.ahead
unfolding field_at
field_is name at new word h =
    let row = bind_ok (row_at name at) _ (word, new) h in
    let field = bind_ok (only_of row.0.0.line row.0.0.fields) _ (word, new) row.2 in
    row_is name at row.0.1 row.0.0 row.1
    ∙ ap (λ (fields : List (List ℕ)). join_with_byte 32 (name ∷ fields) ∷ row.0.1.ahead) (only_is row.0.0.line row.0.0.fields field.0 field.1)
    ∙ ap (λ (x : WordAt × LineCursor). named name x.0.text ∷ x.1.ahead) (ok_is (field.0, row.0.1) (word, new) field.2)

pub two_fields_are : (name : List ℕ) (at new : LineCursor) (words : WordAt × WordAt) → two_fields_at name at ≡ Ok (words, new) → at.ahead ≡ named name (named words.0.text words.1.text) ∷ new.ahead
unfolding two_fields_at
two_fields_are name at new words h =
    let row = bind_ok (row_at name at) _ (words, new) h in
    let both = bind_ok (both_of row.0.0.line row.0.0.fields) _ (words, new) row.2 in
    row_is name at row.0.1 row.0.0 row.1
    ∙ ap (λ (fields : List (List ℕ)). join_with_byte 32 (name ∷ fields) ∷ row.0.1.ahead) (both_are row.0.0.line row.0.0.fields both.0 both.1)
    ∙ ap (λ (x : (WordAt × WordAt) × LineCursor). named name (named x.0.0.text x.0.1.text) ∷ x.1.ahead) (ok_is (both.0, row.0.1) (words, new) both.2)

pub value_is : {T : Type 0} (name : List ℕ) (form : List ℕ → Option T) (write : T → List ℕ) (at new : LineCursor) (value : T) → WritesBack form write → value_at name form at ≡ Ok (value, new) → at.ahead ≡ named name (write value) ∷ new.ahead
unfolding value_at
value_is {T = T} name form write at new value writes h =
    let field = bind_ok (field_at name at) _ (value, new) h in
    let read = bind_ok (spelled field.0.0 (form field.0.0.text)) _ (value, new) field.2 in
    let text = writes field.0.0.text read.0 (spelled_some field.0.0 (form field.0.0.text) read.0 read.1) in
    field_is name at field.0.1 field.0.0 field.1
    ∙ ap (λ (t : List ℕ). named name t ∷ field.0.1.ahead) (sym text)
    ∙ ap (λ (x : T × LineCursor). named name (write x.0) ∷ x.1.ahead) (ok_is (read.0, field.0.1) (value, new) read.2)

-- ---- the end

-- a line that is refused for one of two reasons
neither : (test : Bool) (one other : Refusal) (end : Unit {0}) → cond test (Err one) (Err other) ≡ Ok end → ⊥
neither true one other end h = cc
neither false one other end h = cc

pub no_row_is : (next : ℕ) (lines : List (List ℕ)) (end : Unit {0}) → no_row_of next lines ≡ Ok end → lines ≡ []
no_row_is next [] end h = refl
no_row_is next (line ∷ lines) end h = absurd (neither (is_text line) _ _ end h)
