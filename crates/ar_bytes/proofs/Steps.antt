-- Steps of a reading that did not fail, and what a cursor passed.
use Rattle.std.proofs.Common.{◌≡◌, ℕ, ◌+◌, Bool, true, false, cond, eqb, List, [], ◌++◌, length, Result, Ok, Err, refl, sym, ap, ◌∙◌, append_assoc, arith}
use Rattle.std.proofs.lemmas.Bool.{eqb-true}
use Rattle.std.proofs.lemmas.List.{length-append, get_or-append-add, nil_from_length}
use Rattle.ar_base.specs.Bytes.{AreBytes}
use Rattle.ar_base.specs.Chaining.{◌>>=◌}
use Rattle.ar_base.proofs.Shown.{bind_ok}
use Rattle.ar_bytes.specs.Reading.{Cursor, Reading, all_of}
use Rattle.ar_bytes.specs.RoundTrip.{IsSpelledBy, Passes}

-- a test of what fails that did not fail
pub guard_ok : {A : Type 0} (b : Bool) (place : ℕ) (x y : A) → cond b (Err place) (Ok x) ≡ Ok y → (b ≡ false) × (x ≡ y)
guard_ok true place x y e = absurd cc
guard_ok false place x y e = (refl, cc)

-- a test of what is wanted that did not fail
pub test_ok : {A : Type 0} (b : Bool) (place : ℕ) (x y : A) → cond b (Ok x) (Err place) ≡ Ok y → (b ≡ true) × (x ≡ y)
test_ok true place x y e = (refl, cc)
test_ok false place x y e = absurd cc

-- a reading that took all there was
pub all_ok : {A : Type 0} (x : A × Cursor) (y : A) → all_of x ≡ Ok y → (x.0 ≡ y) × (x.1.ahead ≡ [])
all_ok x y e =
    let t = test_ok (eqb (length x.1.ahead) 0) x.1.place x.0 y e in
    (t.1, nil_from_length x.1.ahead (eqb-true _ _ t.0))

-- a text behind a text
pub Passes-then : (a b c : Cursor) (x y : List ℕ) → Passes a x b → Passes b y c → Passes a (x ++ y) c
Passes-then a b c x y p q = record {
  bytes = p.bytes ∙ ap (λ (t : List ℕ). x ++ t) q.bytes ∙ sym (append_assoc x y c.ahead);
  place = omega (arith, p.place, q.place, length-append x y);
}

-- the cursor between two texts
abbrev pub between : Cursor → List ℕ → List ℕ → Cursor
between at x rest = record { ahead = rest; place = at.place + length x }

-- two texts that were passed were passed one behind the other
pub Passes-first : (a c : Cursor) (x y : List ℕ) → Passes a (x ++ y) c → Passes a x (between a x (y ++ c.ahead))
Passes-first a c x y p = record { bytes = p.bytes ∙ append_assoc x y c.ahead; place = refl }

pub Passes-second : (a c : Cursor) (x y : List ℕ) → Passes a (x ++ y) c → Passes (between a x (y ++ c.ahead)) y c
Passes-second a c x y p = record { bytes = refl; place = omega (arith, p.place, length-append x y) }

-- what is left of bytes is bytes
pub AreBytes-behind : (at new : Cursor) (text : List ℕ) → Passes at text new → AreBytes at.ahead → AreBytes new.ahead
AreBytes-behind at new text p fits i = rw (← get_or-append-add text new.ahead i 0, ← p.bytes) (fits (length text + i))

-- ---- one field behind the other

-- a cursor between two texts
abbrev pub Between : Cursor → List ℕ → List ℕ → Cursor → Type 0
Between at x y new = (mid : Cursor) × Passes at x mid × Passes mid y new

pub split : (at new : Cursor) (x y : List ℕ) → Passes at (x ++ y) new → Between at x y new
split at new x y p = (between at x (y ++ new.ahead), Passes-first at new x y p, Passes-second at new x y p)

-- a field that was read passed its text, and what was read behind it began there
pub next : {A B : Type 0} (field : Cursor → Reading A) (text : A → List ℕ) (fits : A → Type 0) → IsSpelledBy field text fits → (rest : A × Cursor → Result B ℕ) (at : Cursor) (y : B) → AreBytes at.ahead → (field at >>= rest) ≡ Ok y → (a : A) × (mid : Cursor) × Passes at (text a) mid × fits a × AreBytes mid.ahead × (rest (a, mid) ≡ Ok y)
next field text fits spelled rest at y bytes e =
    let b = bind_ok (field at) rest y e in
    let p = spelled at b.0.1 b.0.0 bytes b.1 in
    (b.0.0, b.0.1, p.0, p.1, AreBytes-behind at b.0.1 (text b.0.0) p.0 bytes, b.2)
