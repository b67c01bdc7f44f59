-- Fields that are joined: what was put is read again, and what is read is spelled so, where that holds of
-- each of them.
use Rattle.std.proofs.Common.{◌≡◌, ℕ, Bool, true, false, cond, List, ◌++◌, Option, Some, None, Ok, refl, subst}
use Rattle.std.specs.Prelude.{IfSome}
use Rattle.std.specs.Option.{ok_or}
use Rattle.ar_base.specs.Bytes.{AreBytes}
use Rattle.ar_base.specs.Chaining.{◌>>=◌}
use Rattle.ar_base.proofs.Shown.{bind_ok, needed, ok_is}
use Rattle.ar_bytes.specs.Reading.{Cursor, Reading, known_at, mapped_at}
use Rattle.ar_bytes.specs.RoundTrip.{Passes, ReadsBack, IsSpelledBy}
use Rattle.ar_bytes.specs.Tested.{flag_at, flag_text}
use Rattle.ar_bytes.specs.Joined.{pair_at, optional_at, optional_text}
use Rattle.ar_bytes.proofs.Steps.{between, Passes-then, Passes-first, Passes-second, AreBytes-behind}
use Rattle.ar_bytes.proofs.TestedFields.{flag_again, flag_pass}

-- ---- one behind the other

pub pair_again : {A B : Type 0} (first : Cursor → Reading A) (second : Cursor → Reading B) (a : A) (b : B) (x y : List ℕ) → ReadsBack first a x → ReadsBack second b y → ReadsBack (pair_at first second) (a, b) (x ++ y)
pair_again first second a b x y reads_a reads_b at new p =
    let mid = between at x (y ++ new.ahead) in
    rw (reads_a at mid (Passes-first at new x y p), reads_b mid new (Passes-second at new x y p)) refl

pub pair_pass : {A B : Type 0} (first : Cursor → Reading A) (second : Cursor → Reading B) (text_a : A → List ℕ) (text_b : B → List ℕ) (fits_a : A → Type 0) (fits_b : B → Type 0) → IsSpelledBy first text_a fits_a → IsSpelledBy second text_b fits_b
    → IsSpelledBy (pair_at first second) (λ x. text_a x.0 ++ text_b x.1) (λ x. fits_a x.0 × fits_b x.1)
pair_pass {A} {B} first second text_a text_b fits_a fits_b spelled_a spelled_b at new value bytes e =
    let a = bind_ok {B = (A × B) × Cursor} (first at) (λ a. second a.1 >>= λ b. Ok ((a.0, b.0), b.1)) (value, new) e in
    let b = bind_ok {B = (A × B) × Cursor} (second a.0.1) (λ b. Ok ((a.0.0, b.0), b.1)) (value, new) a.2 in
    let one = spelled_a at a.0.1 a.0.0 bytes a.1 in
    let two = spelled_b a.0.1 b.0.1 b.0.0 (AreBytes-behind at a.0.1 (text_a a.0.0) one.0 bytes) b.1 in
    let both = Passes-then at a.0.1 b.0.1 (text_a a.0.0) (text_b b.0.0) one.0 two.0 in
    let made : (A × B) × Cursor = ((a.0.0, b.0.0), b.0.1) in
    subst (λ (x : (A × B) × Cursor). Passes at (text_a x.0.0 ++ text_b x.0.1) x.1 × (fits_a x.0.0 × fits_b x.0.1)) (ok_is made (value, new) b.2) (both, (one.1, two.1))

-- ---- a field that is there or not

pub optional_again : {A : Type 0} (field : Cursor → Reading A) (text : A → List ℕ) (value : Option A) → IfSome value (λ x. ReadsBack field x (text x)) → ReadsBack (optional_at field) value (optional_text text value)
unfolding optional_at optional_text
optional_again field text None reads at new p = rw (flag_again false at new p) refl
optional_again field text (Some x) reads at new p =
    let mid = between at (flag_text true) (text x ++ new.ahead) in
    rw (flag_again true at mid (Passes-first at new (flag_text true) (text x) p), reads mid new (Passes-second at new (flag_text true) (text x) p)) refl

pub optional_pass : {A : Type 0} (field : Cursor → Reading A) (text : A → List ℕ) (fits : A → Type 0) → IsSpelledBy field text fits → IsSpelledBy (optional_at field) (optional_text text) (λ o. IfSome o fits)
unfolding optional_at optional_text
optional_pass {A} field text fits spelled at new value bytes e =
    let f = bind_ok {B = Option A × Cursor} (flag_at at) (λ flag. cond flag.0 (field flag.1 >>= λ x. Ok (Some x.0, x.1)) (Ok (None, flag.1))) (value, new) e in
    let one = flag_pass at f.0.1 f.0.0 bytes f.1 in
    let behind = AreBytes-behind at f.0.1 (flag_text f.0.0) one.0 bytes in
    by f.0.0 f.0.1 one.0 behind f.2 where
      by : (flag : Bool) (mid : Cursor) → Passes at (flag_text flag) mid → AreBytes mid.ahead → cond flag (◌>>=◌ {B = Option A × Cursor} (field mid) (λ x. Ok (Some x.0, x.1))) (Ok (None, mid)) ≡ Ok (value, new) → Passes at (optional_text text value) new × IfSome value fits
      by true mid p are e =
          let x = bind_ok {B = Option A × Cursor} (field mid) (λ x. Ok (Some x.0, x.1)) (value, new) e in
          let two = spelled mid x.0.1 x.0.0 are x.1 in
          let both = Passes-then at mid x.0.1 (flag_text true) (text x.0.0) p two.0 in
          let made : Option A × Cursor = (Some x.0.0, x.0.1) in
          subst (λ (y : Option A × Cursor). Passes at (optional_text text y.0) y.1 × IfSome y.0 fits) (ok_is made (value, new) x.2) (both, two.1)
      by false mid p are e =
          let made : Option A × Cursor = (None, mid) in
          subst (λ (y : Option A × Cursor). Passes at (optional_text text y.0) y.1 × IfSome y.0 fits) (ok_is made (value, new) e) (p, tt)

-- ---- the value that a field stands for

pub mapped_again : {A B : Type 0} (value : A → B) (field : Cursor → Reading A) (x : A) (text : List ℕ) → ReadsBack field x text → ReadsBack (mapped_at value field) (value x) text
mapped_again value field x text reads at new p = rw (reads at new p) refl

pub mapped_pass : {A B : Type 0} (value : A → B) (field : Cursor → Reading A) (text : A → List ℕ) (fits : A → Type 0) (text_of : B → List ℕ) (fits_of : B → Type 0) → IsSpelledBy field text fits
    → ((x : A) → fits x → (text_of (value x) ≡ text x) × fits_of (value x)) → IsSpelledBy (mapped_at value field) text_of fits_of
mapped_pass {A} {B} value field text fits text_of fits_of spelled stands at new y bytes e =
    let x = bind_ok {B = B × Cursor} (field at) (λ x. Ok (value x.0, x.1)) (y, new) e in
    let one = spelled at x.0.1 x.0.0 bytes x.1 in
    let made_of = stands x.0.0 one.1 in
    let passed : Passes at (text_of (value x.0.0)) x.0.1 = rw made_of.0 one.0 in
    let made : B × Cursor = (value x.0.0, x.0.1) in
    subst (λ (z : B × Cursor). Passes at (text_of z.0) z.1 × fits_of z.0) (ok_is made (y, new) x.2) (passed, made_of.1)

-- ---- and where it stands for one

pub known_again : {A B : Type 0} (value : A → Option B) (field : Cursor → Reading A) (x : A) (known : B) (text : List ℕ) → ReadsBack field x text → value x ≡ Some known → ReadsBack (known_at value field) known text
known_again value field x known text reads is at new p = rw (reads at new p, is) refl

-- the field that was read
pub known_taken : {A B : Type 0} (value : A → Option B) (field : Cursor → Reading A) (at new : Cursor) (known : B) → known_at value field at ≡ Ok (known, new) → (x : A) × (field at ≡ Ok (x, new)) × (value x ≡ Some known)
known_taken {A} {B} value field at new known e =
    let x = bind_ok {B = B × Cursor} (field at) (λ x. ok_or (value x.0) at.place >>= λ y. Ok (y, x.1)) (known, new) e in
    let y = bind_ok {B = B × Cursor} (ok_or (value x.0.0) at.place) (λ y. Ok (y, x.0.1)) (known, new) x.2 in
    subst (λ (z : B × Cursor). (a : A) × (field at ≡ Ok (a, z.1)) × (value a ≡ Some z.0)) (ok_is (y.0, x.0.1) (known, new) y.2) (x.0.0, x.1, needed (value x.0.0) at.place y.0 y.1)

pub known_pass : {A B : Type 0} (value : A → Option B) (field : Cursor → Reading A) (text : A → List ℕ) (fits : A → Type 0) (text_of : B → List ℕ) (fits_of : B → Type 0) → IsSpelledBy field text fits
    → ((x : A) (known : B) → fits x → value x ≡ Some known → (text_of known ≡ text x) × fits_of known) → IsSpelledBy (known_at value field) text_of fits_of
known_pass value field text fits text_of fits_of spelled stands at new known bytes e =
    let x = known_taken value field at new known e in
    let one = spelled at new x.0 bytes x.1 in
    let made_of = stands x.0 known one.1 x.2 in
    (rw made_of.0 one.0, made_of.1)

-- ---- one of two fields, by a test

pub if_pass : {A : Type 0} (test : Bool) (field other : Cursor → Reading A) (text : A → List ℕ) (fits : A → Type 0) → (test ≡ true → IsSpelledBy field text fits) → (test ≡ false → IsSpelledBy other text fits) → IsSpelledBy (λ at. cond test (field at) (other at)) text fits
if_pass test field other text fits spelled spelled_other =
    elim test as (λ b. test ≡ b → IsSpelledBy (λ at. cond b (field at) (other at)) text fits) [
      | true ↦ λ e. spelled e
      | false ↦ λ e. spelled_other e
    ] refl
