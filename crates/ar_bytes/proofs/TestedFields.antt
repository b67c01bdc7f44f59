-- A byte, a count and a flag: what was put is read again, and what is read is spelled so.
use Rattle.std.proofs.Common.{◌≡◌, ℕ, zero, suc, ◌^◌, ◌<◌, ◌≤◌, Bool, true, false, leb, eqb, List, Ok, refl, subst, eq-eqb, arith}
use Rattle.std.specs.Int.{w8}
use Rattle.std.proofs.lemmas.Bool.{le-leb, leb-true, eqb-true}
use Rattle.ar_bytes.specs.Reading.{Cursor, number_at}
use Rattle.ar_bytes.specs.RoundTrip.{Passes, ReadsBack, IsSpelledBy, number_text}
use Rattle.ar_bytes.specs.Tested.{byte_at, count_at, flag_at, flag_text}
use Rattle.ar_bytes.proofs.Passing.{number_again, number_pass, wide8}
use Rattle.ar_bytes.proofs.Parts.{such_that_again, such_that_pass}
use Rattle.ar_base.proofs.Shown.{bind_ok, ok_is}

pub byte_again : (value : ℕ) → value < 2 ^ 8 → ReadsBack (byte_at value) value (number_text w8 value)
byte_again value lt =
    such_that_again (λ n. eqb n value) (number_at w8) value (number_text w8 value) (number_again w8 (2 ^ 8) wide8 value lt) (eq-eqb value value refl)

pub byte_pass : (value : ℕ) → IsSpelledBy (byte_at value) (number_text w8) (λ n. n ≡ value)
byte_pass value at new n bytes e =
    let p = such_that_pass (λ n. eqb n value) (number_at w8) (number_text w8) (λ n. n < 2 ^ 8) (number_pass w8 (2 ^ 8) wide8) at new n bytes e in
    (p.0, eqb-true n value p.1.1)

pub count_again : (most n : ℕ) → n ≤ most → n < 2 ^ 8 → ReadsBack (count_at most) n (number_text w8 n)
count_again most n le lt = such_that_again (λ n. leb n most) (number_at w8) n (number_text w8 n) (number_again w8 (2 ^ 8) wide8 n lt) (le-leb n most le)

pub count_pass : (most : ℕ) → IsSpelledBy (count_at most) (number_text w8) (λ n. n ≤ most)
count_pass most at new n bytes e =
    let p = such_that_pass (λ n. leb n most) (number_at w8) (number_text w8) (λ n. n < 2 ^ 8) (number_pass w8 (2 ^ 8) wide8) at new n bytes e in
    (p.0, leb-true n most p.1.1)

pub flag_again : (flag : Bool) → ReadsBack flag_at flag (flag_text flag)
unfolding flag_at
flag_again true at new p = rw (count_again 1 1 (omega arith) (omega arith) at new p) refl
flag_again false at new p = rw (count_again 1 0 (omega arith) (omega arith) at new p) refl

flag_number : (n : ℕ) → n ≤ 1 → number_text w8 n ≡ flag_text (eqb n 1)
flag_number zero le = refl
flag_number (suc zero) le = refl
flag_number (suc (suc n)) le = absurd (omega arith)

pub flag_pass : IsSpelledBy flag_at flag_text (λ _. Unit {0})
unfolding flag_at
flag_pass at new flag bytes e =
    let b = bind_ok {B = Bool × Cursor} (count_at 1 at) (λ n. Ok (eqb n.0 1, n.1)) (flag, new) e in
    let p = count_pass 1 at b.0.1 b.0.0 bytes b.1 in
    let is = ok_is (eqb b.0.0 1, b.0.1) (flag, new) b.2 in
    subst (λ (x : Bool × Cursor). Passes at (flag_text x.0) x.1 × Unit {0}) is (subst (λ (t : List ℕ). Passes at t b.0.1) (flag_number b.0.0 p.1) p.0, tt)
