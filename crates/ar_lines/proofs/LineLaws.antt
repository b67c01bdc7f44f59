-- The first line of an input, by where its first newline stands.
use Rattle.std.proofs.Common.{◌≡◌, ℕ, ◌+◌, ◌-◌, ◌<◌, ◌≤◌, Bool, true, false, cond, ◌==◌, List, [], ◌∷◌, length, take, drop, Some, None, refl, sym, ap, ◌∙◌, arith, length-drop}
use Rattle.std.specs.Prelude.{position, nat_lt}
use Rattle.std.specs.List.{slice_split, onto_first, position_or_len}
use Rattle.std.proofs.lemmas.List.{take_all}
use Rattle.std.proofs.lemmas.List.Elements.{All-from_get_or}
use Rattle.std.proofs.lemmas.List.Splits.{slice_split_first, slice_split_none}
use Rattle.std.proofs.lemmas.List.Sums.{fails_before_first}
use Rattle.std.proofs.lemmas.Option.{cond_some}
use borrow.Author.Tests.{ltb-true, ltb-false}
use Rattle.ar_lines.specs.Lines.{lines_of, lines_of_pieces, parts_of}
use Rattle.ar_base.proofs.Shown.{cond_none}

-- a cut gives at least one piece
abbrev pub AtLeastOne : List (List ℕ) → Type 0
AtLeastOne pieces = (piece : List ℕ) × (more : List (List ℕ)) × (pieces ≡ piece ∷ more)

onto_some : (byte : ℕ) (pieces : List (List ℕ)) → AtLeastOne (onto_first byte pieces)
onto_some byte [] = (byte ∷ [], [], refl)
onto_some byte (piece ∷ more) = (byte ∷ piece, more, refl)

cut_some : (b : Bool) (byte : ℕ) (pieces : List (List ℕ)) → AtLeastOne (cond b ([] ∷ pieces) (onto_first byte pieces))
cut_some true byte pieces = ([], pieces, refl)
cut_some false byte pieces = onto_some byte pieces

pub pieces_are_some : (ends : ℕ → Bool) (input : List ℕ) → AtLeastOne (slice_split ends input)
pieces_are_some ends [] = ([], [], refl)
pieces_are_some ends (byte ∷ input) = cut_some (ends byte) byte (slice_split ends input)

-- a piece that another follows is a line
pub line_before : (line : List ℕ) (pieces : List (List ℕ)) → AtLeastOne pieces → lines_of_pieces (line ∷ pieces) ≡ line ∷ lines_of_pieces pieces
line_before line pieces some = rw some.2 refl

pub lines_of-empty : (input : List ℕ) → length input ≡ 0 → lines_of input ≡ []
unfolding lines_of parts_of
lines_of-empty [] h = refl
lines_of-empty (byte ∷ input) h = absurd (omega arith)

-- a cut at the first place that ends a piece
pub cut_at : (ends : ℕ → Bool) (text : List ℕ) (end : ℕ) → position ends text ≡ Some end → slice_split ends text ≡ take end text ∷ slice_split ends (take (length text - (end + 1)) (drop (end + 1) text))
cut_at ends text end h =
    let at = position_or_len ends text in
    let found = cond_some (nat_lt at (length text)) at end h in
    let within : at < length text = ltb-true at (length text) found.0 in
    let rest : take (length text - (end + 1)) (drop (end + 1) text) ≡ drop (at + 1) text =
    take_all (length text - (end + 1)) (drop (end + 1) text) (omega (arith, length-drop (end + 1) text)) ∙ ap (λ n. drop (n + 1) text) (sym found.1) in
    slice_split_first ends text 0 within
    ∙ ap (λ n. take n text ∷ slice_split ends (drop (at + 1) text)) found.1
    ∙ ap (λ more. take end text ∷ slice_split ends more) (sym rest)

-- a text in which no place ends a piece
pub uncut : (ends : ℕ → Bool) (text : List ℕ) → position ends text ≡ None → slice_split ends text ≡ text ∷ []
uncut ends text h =
    let at = position_or_len ends text in
    let none : length text ≤ at = ltb-false at (length text) (cond_none (nat_lt at (length text)) at h) in
    let fails = All-from_get_or (λ byte. ends byte ≡ false) text 0 (λ k lt. fails_before_first ends text k 0 (omega arith)) in
    slice_split_none ends text fails

pub parts_of-mark : (mark : ℕ) (text : List ℕ) (end : ℕ) → position (λ byte. byte == mark) text ≡ Some end → parts_of mark text ≡ take end text ∷ parts_of mark (take (length text - (end + 1)) (drop (end + 1) text))
unfolding parts_of
parts_of-mark mark text end h = cut_at (λ byte. byte == mark) text end h

pub parts_of-one : (mark : ℕ) (text : List ℕ) → position (λ byte. byte == mark) text ≡ None → parts_of mark text ≡ text ∷ []
unfolding parts_of
parts_of-one mark text h = uncut (λ byte. byte == mark) text h

pub ruleset first_part_laws = (parts_of-mark, parts_of-one)

-- a text has a part
pub parts_some : (mark : ℕ) (text : List ℕ) → AtLeastOne (parts_of mark text)
unfolding parts_of
parts_some mark text = pieces_are_some (λ byte. byte == mark) text

pub lines_of-newline : (input : List ℕ) (end : ℕ) → position (λ byte. byte == 10) input ≡ Some end → lines_of input ≡ take end input ∷ lines_of (take (length input - (end + 1)) (drop (end + 1) input))
unfolding lines_of
lines_of-newline input end h =
    let rest = take (length input - (end + 1)) (drop (end + 1) input) in
    ap lines_of_pieces (parts_of-mark 10 input end h) ∙ line_before (take end input) (parts_of 10 rest) (parts_some 10 rest)

-- an input with no newline is its one line, where it is not empty
one_line : (input : List ℕ) → 0 < length input → lines_of_pieces (input ∷ []) ≡ input ∷ []
one_line [] some = absurd (omega arith)
one_line (byte ∷ input) some = refl

pub lines_of-one : (input : List ℕ) → position (λ byte. byte == 10) input ≡ None → (length input ≡ 0 → ⊥) → lines_of input ≡ input ∷ lines_of []
unfolding lines_of parts_of
lines_of-one input h some = ap lines_of_pieces (parts_of-one 10 input h) ∙ one_line input (omega arith)

pub ruleset first_line_laws = (lines_of-empty, lines_of-newline, lines_of-one)
