-- Where a text is cut: by the first newline of what was read, behind what was read before.
use Rattle.std.proofs.Common.{◌≡◌, ℕ, ◌+◌, ◌-◌, ◌<◌, ◌≤◌, Bool, true, false, ◌==◌, List, [], ◌∷◌, ◌++◌, length, take, drop, Option, Some, None, sym, ap, ◌∙◌, subst, arith, append_assoc, length-append, take-append-drop}
use Rattle.std.specs.Prelude.{position, nat_lt, ◌^◌}
use Rattle.std.specs.List.{position_or_len}
use Rattle.std.proofs.Math.ListN.{get_or}
use Rattle.std.proofs.lemmas.List.{append-nil, drop-take, drop-drop, drop_more, get_or-take, length-take, take_all}
use Rattle.std.proofs.lemmas.List.Elements.{All-append, All-from_get_or}
use Rattle.std.proofs.lemmas.Bool.{eqb-true, ltb-false}
use Rattle.std.proofs.lemmas.List.Quantifiers.{position-Some}
use Rattle.std.proofs.lemmas.List.Sums.{fails_before_first}
use Rattle.ar_base.proofs.Shown.{cond_none}
use Rattle.desk_run.specs.Lines.{CutsAt, IsUncut}
use Rattle.desk_run.specs.Reading.{Comes, Passed, PassesOn, ReaderParts}
use Rattle.desk_run.specs.Runs.{HasOverrun}
use Rattle.std.specs.Io.KnownBytes.{Consumes}
use Rattle.std.proofs.KnownBytes.{Consumes-trans}

-- what is read behind so many bytes of a piece
pub drop_within : (c s e : ℕ) (xs : List ℕ) → c ≤ e - s → drop c (take (e - s) (drop s xs)) ≡ take (e - (s + c)) (drop (s + c) xs)
drop_within c s e xs h =
    let n : e - s ≡ c + (e - (s + c)) = omega (arith, h) in
    ap (λ k. drop c (take k (drop s xs))) n ∙ drop-take c (e - (s + c)) (drop s xs) ∙ ap (take (e - (s + c))) (drop-drop c s xs)

-- the same where it is seen
pub drop_ahead : (ahead : List ℕ) (c s e : ℕ) (xs : List ℕ) → take (e - s) (drop s xs) ≡ ahead → c ≤ length ahead → take (e - (s + c)) (drop (s + c) xs) ≡ drop c ahead
drop_ahead ahead c s e xs is h =
    let within : c ≤ length (take (e - s) (drop s xs)) = subst (λ (a : List ℕ). c ≤ length a) (sym is) h in
    sym (drop_within c s e xs (omega (arith, within, length-take (e - s) (drop s xs)))) ∙ ap (drop c) is

abbrev parts : List ℕ → Bool → List ℕ → ReaderParts
parts line long ahead = record { line = line; long = long; ahead = ahead }

-- one byte is passed over
pub skipped : (reader : ReaderParts) (line : List ℕ) (long : Bool) (s e : ℕ) (xs : List ℕ) → parts line long (take (e - s) (drop s xs)) ≡ reader → 0 < length reader.ahead
    → parts line long (take (e - (s + 1)) (drop (s + 1) xs)) ≡ parts reader.line reader.long (drop 1 reader.ahead)
skipped reader line long s e xs is h =
    let rest = drop_ahead reader.ahead 1 s e xs (ap (λ (r : ReaderParts). r.ahead) is) (omega (arith, h)) in
    ap (parts line long) rest ∙ ap (λ (r : ReaderParts). parts r.line r.long (drop 1 reader.ahead)) is

-- no newline stands where none was found
pub uncut : (text : List ℕ) → position (λ byte. byte == 10) text ≡ None → IsUncut text
uncut text h =
    let none = ltb-false (position_or_len (λ byte. byte == 10) text) (length text) (cond_none (nat_lt (position_or_len (λ byte. byte == 10) text) (length text)) (position_or_len (λ byte. byte == 10) text) h) in
    All-from_get_or (λ byte. (byte == 10) ≡ false) text 0 (λ k lt. fails_before_first (λ byte. byte == 10) text k 0 (omega (arith, none, lt)))

-- a cut at the first newline
pub cut_at : (text : List ℕ) (end : ℕ) → position (λ byte. byte == 10) text ≡ Some end → CutsAt text (take end text) (drop 1 (drop end text))
cut_at text end h =
    let found = position-Some (λ byte. byte == 10) text end 0 h in
    let byte : get_or text end 0 ≡ 10 = eqb-true (get_or text end 0) 10 found.1 in
    let at : drop end text ≡ 10 ∷ drop 1 (drop end text) =
    drop_more text end 0 found.0 ∙ ap (λ b. b ∷ drop (end + 1) text) byte ∙ ap (λ more. 10 ∷ more) (sym (drop-drop 1 end text)) in (
      sym (take-append-drop end text) ∙ ap (λ more. take end text ++ more) at,
      All-from_get_or (λ byte. (byte == 10) ≡ false) (take end text) 0 (λ k lt.
          let within : k < end = omega (arith, lt, length-take end text) in
          subst (λ byte. (byte == 10) ≡ false) (sym (get_or-take end text k 0 within)) (found.2 k within)),
    )

-- a line behind what was passed of it before
pub line_comes : (reader : ReaderParts) (left : Option (List ℕ)) (text passed ahead front : List ℕ) → text ≡ passed ++ ahead
    → IsUncut passed → CutsAt ahead front reader.ahead → Passed reader.long reader.line (passed ++ front) → Comes true text reader left
line_comes reader left text passed ahead front is uncut_passed cut held = (
  passed ++ front,
  ((is ∙ ap (λ more. passed ++ more) cut.0 ∙ sym (append_assoc passed front (10 ∷ reader.ahead)), All-append (λ byte. (byte == 10) ≡ false) passed front uncut_passed cut.1), held),
)

-- what was read behind it, of which no newline was seen
pub uncut_more : (passed ahead : List ℕ) → IsUncut passed → IsUncut ahead → IsUncut (passed ++ ahead)
uncut_more passed ahead p q = All-append (λ byte. (byte == 10) ≡ false) passed ahead p q

-- What was taken in so many pieces, and what of it, behind what was there before, the line has so far: no newline is in that.
abbrev pub TookSoFar : ℕ → List ℕ → Option (List ℕ) → Option (List ℕ) → ReaderParts → Type 0
TookSoFar pieces ahead first last reader = (taken : List ℕ) × Consumes first last taken × (pieces ≤ length taken)
    × ((passed : List ℕ) × (ahead ++ taken ≡ passed ++ reader.ahead) × IsUncut passed × Passed reader.long reader.line passed)

-- a line came
pub line_took : (pieces : ℕ) (ahead : List ℕ) (first last : Option (List ℕ)) (old new : ReaderParts) → TookSoFar pieces ahead first last old
    → (front : List ℕ) × CutsAt old.ahead front new.ahead × PassesOn old new front
    → (taken : List ℕ) × Consumes first last taken × Comes true (ahead ++ taken) new last
line_took pieces ahead first last old new so_far cut =
    let passed = so_far.3 in
    (so_far.0, so_far.1, line_comes new last (ahead ++ so_far.0) passed.0 old.ahead cut.0 passed.1 passed.2 cut.1 (cut.2 passed.0 passed.3))

-- more pieces came than are counted
pub overran : (pieces : ℕ) (ahead : List ℕ) (first last : Option (List ℕ)) (reader : ReaderParts) → TookSoFar pieces ahead first last reader → 2 ^ 64 - 1 ≤ pieces
    → HasOverrun first last
overran pieces ahead first last reader so_far many = (so_far.0, so_far.1, omega (arith, so_far.2, many))

-- another piece came
pub piece_took : (pieces : ℕ) (ahead : List ℕ) (first mid last : Option (List ℕ)) (old passing new : ReaderParts) → TookSoFar pieces ahead first mid old
    → IsUncut old.ahead → PassesOn old passing old.ahead → Consumes mid last new.ahead → 0 < length new.ahead → new.line ≡ passing.line → new.long ≡ passing.long
    → TookSoFar (pieces + 1) ahead first last new
piece_took pieces ahead first mid last old passing new so_far none on came some line long =
    let passed = so_far.3 in
    let held : Passed new.long new.line (passed.0 ++ old.ahead) =
    subst (λ b. Passed b new.line (passed.0 ++ old.ahead)) (sym long) (subst (λ (l : List ℕ). Passed passing.long l (passed.0 ++ old.ahead)) (sym line) (on passed.0 passed.3)) in (
      so_far.0 ++ new.ahead,
      Consumes-trans first mid last so_far.0 new.ahead so_far.1 came,
      omega (arith, so_far.2, some, length-append so_far.0 new.ahead),
      (
        passed.0 ++ old.ahead,
        sym (append_assoc ahead so_far.0 new.ahead) ∙ ap (λ xs. xs ++ new.ahead) passed.1,
        uncut_more passed.0 old.ahead passed.2 none,
        held,
      ),
    )

-- a read failed before a newline came
pub none_took : (pieces : ℕ) (ahead : List ℕ) (first mid last : Option (List ℕ)) (reader : ReaderParts) → TookSoFar pieces ahead first mid reader → IsUncut reader.ahead
    → Consumes mid last [] → (taken : List ℕ) × Consumes first last taken × IsUncut (ahead ++ taken)
none_took pieces ahead first mid last reader so_far none came =
    let passed = so_far.3 in (
      so_far.0,
      subst (λ (xs : List ℕ). Consumes first last xs) (append-nil so_far.0) (Consumes-trans first mid last so_far.0 [] so_far.1 came),
      subst (λ (xs : List ℕ). IsUncut xs) (sym passed.1) (uncut_more passed.0 reader.ahead passed.2 none),
    )

-- a line was passed over, to the first newline of what was read
pub line_passed : (old mid new : ReaderParts) (bytes : List ℕ) (end : ℕ) → bytes ≡ old.ahead → Some end ≡ position (λ byte. byte == 10) bytes
    → PassesOn old mid (take end old.ahead) → mid.ahead ≡ drop end old.ahead → new ≡ parts mid.line mid.long (drop 1 mid.ahead)
    → (front : List ℕ) × CutsAt old.ahead front new.ahead × PassesOn old new front
line_passed old mid new bytes end is found on ahead now =
    let front = take end old.ahead in
    let cut = cut_at old.ahead end (subst (λ (xs : List ℕ). position (λ byte. byte == 10) xs ≡ Some end) is (sym found)) in
    let rest : new.ahead ≡ drop 1 (drop end old.ahead) = ap (λ (r : ReaderParts). r.ahead) now ∙ ap (drop 1) ahead in
    (front, subst (λ (xs : List ℕ). CutsAt old.ahead front xs) (sym rest) cut, subst (λ (r : ReaderParts). PassesOn old r front) (sym now) on)

-- all was passed over that was read, and no newline was there
pub none_passed : (old new : ReaderParts) (bytes all : List ℕ) → bytes ≡ old.ahead → None ≡ position (λ byte. byte == 10) bytes
    → PassesOn old new (take (length all) old.ahead) → all ≡ old.ahead → IsUncut old.ahead × PassesOn old new old.ahead
none_passed old new bytes all is none on same = (
  uncut old.ahead (subst (λ (xs : List ℕ). position (λ byte. byte == 10) xs ≡ None) is (sym none)),
  subst (λ (xs : List ℕ). PassesOn old new xs) (ap (λ (xs : List ℕ). take (length xs) old.ahead) same ∙ take_all (length old.ahead) old.ahead (omega arith)) on,
)
