-- Text: words without spaces, lines without newlines, and what is read of them.
use Rattle.std.proofs.Common.{◌≡◌, ℕ, ◌<◌, ◌≤◌, ◌==◌, Bool, true, false, ◌&&◌, leb, List, [], ◌∷◌, ◌++◌, length, get_or, refl, ap, ◌∙◌, append_assoc, le-leb, leb-true, ne_eqb, arith}
use Rattle.std.specs.List.{list_all}
use Rattle.std.proofs.lemmas.Bool.{and_parts}
use Rattle.std.proofs.lemmas.List.Folds.{list_all-append}
use Rattle.std.proofs.lemmas.List.Splits.{slice_split_at, slice_split_none}
use Rattle.std.proofs.lemmas.List.Sums.{AllPass-from_list_all, list_all-from_AllPass}
use Rattle.ar_lines.specs.Lines.{is_text, is_text_byte, lines_of, lines_of_pieces, parts_of, words_of}
use Rattle.ar_lines.specs.Written.{text_of_lines}
use Rattle.ar_lines.proofs.LineLaws.{line_before, parts_some}

-- where one test passes, so does another
pub all_pass : (p q : ℕ → Bool) → ((byte : ℕ) → p byte ≡ true → q byte ≡ true) → (text : List ℕ) → list_all p text ≡ true → list_all q text ≡ true
all_pass p q more text h =
    let each = AllPass-from_list_all p text h in
    list_all-from_AllPass q text (λ k d lt. more (get_or text k d) (each k d lt))

-- a range of bytes within another
pub within_range : (low high least most byte : ℕ) → least ≤ low → high ≤ most → (leb low byte && leb byte high) ≡ true → (leb least byte && leb byte most) ≡ true
within_range low high least most byte at_least at_most h =
    let parts = and_parts _ _ h in
    let from = leb-true low byte parts.0 in
    let to = leb-true byte high parts.1 in
    rw (le-leb least byte (omega arith), le-leb byte most (omega arith)) refl

-- ---- words

-- whether a byte is a character that is printed, and no space
abbrev pub is_word_byte : ℕ → Bool
is_word_byte byte = leb 0x21 byte && leb byte 0x7e

abbrev pub is_word : List ℕ → Bool
is_word word = list_all is_word_byte word

-- a word is text
pub word_is_text : (word : List ℕ) → is_word word ≡ true → is_text word ≡ true
word_is_text word h = all_pass is_word_byte is_text_byte (λ byte. within_range 0x21 0x7e 0x20 0x7e byte (omega arith) (omega arith)) word h

no_space : (word : List ℕ) → is_word word ≡ true → (k d : ℕ) → k < length word → (get_or word k d == 32) ≡ false
no_space word h k d lt =
    let byte = get_or word k d in
    let low = leb-true 0x21 byte (and_parts _ _ (AllPass-from_list_all is_word_byte word h k d lt)).0 in
    ne_eqb byte 32 (λ e. omega arith)

-- a word is the first of a line where a space follows, and the only one where nothing does
pub words_of-first : (word rest : List ℕ) → is_word word ≡ true → words_of (word ++ (32 ∷ rest)) ≡ word ∷ words_of rest
unfolding parts_of
words_of-first word rest h = slice_split_at (λ byte. byte == 32) word 32 rest (no_space word h) refl

pub words_of-last : (word : List ℕ) → is_word word ≡ true → words_of word ≡ word ∷ []
unfolding parts_of
words_of-last word h = slice_split_none (λ byte. byte == 32) word (no_space word h)

-- text, a space and more text are text
pub text_joined : (front back : List ℕ) → is_text front ≡ true → is_text back ≡ true → is_text (front ++ (32 ∷ back)) ≡ true
text_joined front back f b = list_all-append is_text_byte front (32 ∷ back) ∙ rw (f, b) refl

-- ---- lines

no_newline : (line : List ℕ) → is_text line ≡ true → (k d : ℕ) → k < length line → (get_or line k d == 10) ≡ false
no_newline line h k d lt =
    let byte = get_or line k d in
    let low = leb-true 0x20 byte (and_parts _ _ (AllPass-from_list_all is_text_byte line h k d lt)).0 in
    ne_eqb byte 10 (λ e. omega arith)

-- text is the first line of an input where a newline follows
pub lines_of-first : (line rest : List ℕ) → is_text line ≡ true → lines_of (line ++ (10 ∷ rest)) ≡ line ∷ lines_of rest
unfolding lines_of parts_of
lines_of-first line rest h =
    ap lines_of_pieces (slice_split_at (λ byte. byte == 10) line 10 rest (no_newline line h) refl)
    ∙ line_before line _ (parts_some 10 rest)

lines_of-none : lines_of [] ≡ []
unfolding lines_of parts_of
lines_of-none = refl

-- lines of text that are written are read again
pub lines_of-text : (lines : List (List ℕ)) → list_all is_text lines ≡ true → lines_of (text_of_lines lines) ≡ lines
lines_of-text [] h = lines_of-none
lines_of-text (line ∷ lines) h =
    let parts = and_parts _ _ h in
    let rest = text_of_lines lines in
    ap lines_of (append_assoc line (10 ∷ []) rest) ∙ lines_of-first line rest parts.0
    ∙ ap (λ more. line ∷ more) (lines_of-text lines parts.1)
