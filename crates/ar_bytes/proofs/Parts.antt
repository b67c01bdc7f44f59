-- A field that is tested, a counted part and a whole input: what was put is read again, and what is read
-- is spelled so, where that holds of the field in it.
use Rattle.std.proofs.Common.{◌≡◌, ℕ, ◌+◌, Bool, true, cond, List, [], ◌++◌, length, Ok, Err, refl, sym, ap, subst, ◌∙◌}
use Rattle.std.proofs.lemmas.List.{append-nil}
use Rattle.ar_base.specs.Chaining.{◌>>=◌}
use Rattle.ar_bytes.specs.Reading.{Cursor, Reading, all_of, start_of, bytes_at, such_that, part_at, within, whole}
use Rattle.ar_base.specs.Bytes.{AreBytes}
use Rattle.ar_base.proofs.Shown.{bind_ok, ok_is}
use Rattle.ar_bytes.specs.RoundTrip.{Passes, ReadsBack, IsSpelledBy}
use Rattle.ar_bytes.proofs.Steps.{test_ok, all_ok}
use Rattle.ar_bytes.proofs.Passing.{bytes_again, bytes_pass, AreBytes-front}

-- ---- a value that passes a test

pub such_that_again : {A : Type 0} (test : A → Bool) (field : Cursor → Reading A) (value : A) (text : List ℕ) → ReadsBack field value text → test value ≡ true → ReadsBack (such_that test field) value text
unfolding such_that
such_that_again test field value text reads passes at new p = rw (reads at new p, passes) refl

pub such_that_pass : {A : Type 0} (test : A → Bool) (field : Cursor → Reading A) (text : A → List ℕ) (fits : A → Type 0) → IsSpelledBy field text fits → IsSpelledBy (such_that test field) text (λ x. fits x × (test x ≡ true))
unfolding such_that
such_that_pass {A} test field text fits spelled at new value bytes e =
    let b = bind_ok (field at) (λ (x : A × Cursor). cond (test x.0) (Ok x) (Err at.place)) (value, new) e in
    let t = test_ok (test b.0.0) at.place b.0 (value, new) b.2 in
    let s = spelled at b.0.1 b.0.0 bytes b.1 in
    subst (λ (x : A × Cursor). Passes at (text x.0) x.1 × (fits x.0 × (test x.0 ≡ true))) t.1 (s.0, (s.1, t.0))

-- ---- a part

-- a text with nothing behind it
abbrev only : List ℕ → ℕ → Cursor
only text place = record { ahead = text; place = place }

-- behind all of a text
abbrev past : List ℕ → ℕ → Cursor
past text place = record { ahead = []; place = place + length text }

only_passes : (text : List ℕ) (place : ℕ) → Passes (only text place) text (past text place)
only_passes text place = record { bytes = sym (append-nil text); place = refl }

only_is : (at new : Cursor) (text : List ℕ) → Passes at text new → new.ahead ≡ [] → at.ahead ≡ text
only_is at new text p none = p.bytes ∙ ap (λ (rest : List ℕ). text ++ rest) none ∙ append-nil text

pub part_again : (text : List ℕ) (at new : Cursor) → Passes at text new → part_at (length text) at ≡ Ok (only text at.place, new)
unfolding part_at
part_again text at new p = rw (bytes_again (length text) text at new refl p) refl

pub within_again : {A : Type 0} (field : Cursor → Reading A) (value : A) (text : List ℕ) → ReadsBack field value text → ReadsBack (within (length text) field) value text
unfolding within
within_again field value text reads at new p =
    rw (part_again text at new p, reads (only text at.place) (past text at.place) (only_passes text at.place)) refl

pub part_pass : (n : ℕ) (at : Cursor) (inner new : Cursor) → part_at n at ≡ Ok (inner, new) → Passes at inner.ahead new × (length inner.ahead ≡ n)
unfolding part_at
part_pass n at inner new e =
    let b = bind_ok {B = Cursor × Cursor} (bytes_at n at) (λ bytes. Ok (record { ahead = bytes.0; place = at.place }, bytes.1)) (inner, new) e in
    let p = bytes_pass n at b.0.1 b.0.0 b.1 in
    let is = ok_is (only b.0.0 at.place, b.0.1) (inner, new) b.2 in
    subst (λ (x : Cursor × Cursor). Passes at x.0.ahead x.1 × (length x.0.ahead ≡ n)) is p

pub within_pass : {A : Type 0} (n : ℕ) (field : Cursor → Reading A) (text : A → List ℕ) (fits : A → Type 0) → IsSpelledBy field text fits → IsSpelledBy (within n field) text (λ x. fits x × (length (text x) ≡ n))
unfolding within
within_pass {A} n field text fits spelled at new value bytes e =
    let b = bind_ok {B = A × Cursor} (part_at n at) (λ part. (field part.0 >>= all_of) >>= λ x. Ok (x, part.1)) (value, new) e in
    let d = bind_ok {B = A × Cursor} (field b.0.0 >>= all_of) (λ x. Ok (x, b.0.1)) (value, new) b.2 in
    let f = bind_ok (field b.0.0) all_of d.0 d.1 in
    let a = all_ok f.0 d.0 f.2 in
    let p = part_pass n at b.0.0 b.0.1 b.1 in
    let s = spelled b.0.0 f.0.1 f.0.0 (AreBytes-front at b.0.1 b.0.0.ahead p.0 bytes) f.1 in
    let inside : b.0.0.ahead ≡ text f.0.0 = only_is b.0.0 f.0.1 (text f.0.0) s.0 a.1 in
    let here : Passes at (text f.0.0) b.0.1 × (fits f.0.0 × (length (text f.0.0) ≡ n)) = rw (← inside) (p.0, (s.1, p.1)) in
    let there : Passes at (text d.0) b.0.1 × (fits d.0 × (length (text d.0) ≡ n)) = subst (λ (x : A). Passes at (text x) b.0.1 × (fits x × (length (text x) ≡ n))) a.0 here in
    subst (λ (x : A × Cursor). Passes at (text x.0) x.1 × (fits x.0 × (length (text x.0) ≡ n))) (ok_is (d.0, b.0.1) (value, new) d.2) there

-- ---- a whole input

pub whole_again : {A : Type 0} (field : Cursor → Reading A) (value : A) (text : List ℕ) → ReadsBack field value text → whole field text ≡ Ok value
unfolding whole
whole_again field value text reads = rw (reads (only text 0) (past text 0) (only_passes text 0)) refl

pub whole_pass : {A : Type 0} (field : Cursor → Reading A) (text : A → List ℕ) (fits : A → Type 0) → IsSpelledBy field text fits → (bytes : List ℕ) (value : A) → AreBytes bytes → whole field bytes ≡ Ok value → (bytes ≡ text value) × fits value
unfolding whole
whole_pass {A} field text fits spelled bytes value are e =
    let b = bind_ok (field (start_of bytes)) all_of value e in
    let a = all_ok b.0 value b.2 in
    let s = spelled (start_of bytes) b.0.1 b.0.0 are b.1 in
    subst (λ (x : A). (bytes ≡ text x) × fits x) a.0 (only_is (start_of bytes) b.0.1 (text b.0.0) s.0 a.1, s.1)
