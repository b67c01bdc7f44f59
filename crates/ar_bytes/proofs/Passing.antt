-- Each field reads what was put, and passes what it reads.
use Rattle.std.proofs.Common.{◌≡◌, ℕ, ◌+◌, ◌%◌, ◌^◌, ◌<◌, ◌≤◌, false, ltb, List, [], ◌∷◌, ◌++◌, length, get_or, take, drop, Ok, refl, sym, ap, subst, arith, inl, inr}
use Rattle.std.specs.Int.{Width, w8, w16, w32, w64, w128, byte_len, from_be_bytes, to_be_bytes}
use Rattle.std.proofs.lemmas.Bool.{cases_lt, ltb-false, le-ltb}
use Rattle.std.proofs.lemmas.List.{take_at, drop_at, take-append-drop, length-append, length-take, get_or-take, get_or_past}
use Rattle.std.proofs.lemmas.Nat.{be_bytes_2, be_bytes_4, be_bytes_8, from_be_bytes-to_be_bytes_2, from_be_bytes-to_be_bytes_4, from_be_bytes-to_be_bytes_8}
use Rattle.ar_bytes.specs.Reading.{Cursor, behind, bytes_at, number_at, counted_at}
use Rattle.ar_base.specs.Bytes.{AreBytes}
use Rattle.ar_base.proofs.Shown.{bind_ok, ok_is}
use Rattle.ar_bytes.specs.RoundTrip.{Passes, number_text, counted_text}
use Rattle.ar_bytes.proofs.Steps.{guard_ok, between, Passes-then, Passes-first, Passes-second}

-- ---- plain bytes

same_cursor : (at new : Cursor) (ahead : List ℕ) (place : ℕ) → ahead ≡ new.ahead → place ≡ new.place → ◌≡◌ {A = Cursor} (record { ahead = ahead; place = place }) new
same_cursor at new ahead place a p = rw (a, p) refl

pub bytes_again : (n : ℕ) (text : List ℕ) (at new : Cursor) → length text ≡ n → Passes at text new → bytes_at n at ≡ Ok (text, new)
unfolding bytes_at
bytes_again n text at new len p =
    let long : ltb (length at.ahead) n ≡ false = le-ltb _ _ (omega (arith, ap length p.bytes, length-append text new.ahead)) in
    let front : take n at.ahead ≡ text = rw p.bytes (take_at text new.ahead n len) in
    let rest : drop n at.ahead ≡ new.ahead = rw p.bytes (drop_at text new.ahead n len) in
    let place : at.place + n ≡ new.place = omega (arith, len, p.place) in
    rw (long, front, same_cursor at new (drop n at.ahead) (at.place + n) rest place) refl

pub bytes_pass : (n : ℕ) (at new : Cursor) (text : List ℕ) → bytes_at n at ≡ Ok (text, new) → Passes at text new × (length text ≡ n)
unfolding bytes_at
bytes_pass n at new text e =
    let g = guard_ok (ltb (length at.ahead) n) at.place (take n at.ahead, behind n at) (text, new) e in
    let long : n ≤ length at.ahead = ltb-false _ _ g.0 in
    let text_is : take n at.ahead ≡ text = ap (λ (x : List ℕ × Cursor). x.0) g.1 in
    let ahead_is : drop n at.ahead ≡ new.ahead = ap (λ (x : List ℕ × Cursor). x.1.ahead) g.1 in
    let place_is : at.place + n ≡ new.place = ap (λ (x : List ℕ × Cursor). x.1.place) g.1 in
    let len : length text ≡ n = rw (← text_is) (omega (arith, length-take n at.ahead)) in
    (record { bytes = rw (← text_is, ← ahead_is) (sym (take-append-drop n at.ahead)); place = omega (arith, len, place_is) }, len)

pub AreBytes-front : (at new : Cursor) (text : List ℕ) → Passes at text new → AreBytes at.ahead → AreBytes text
AreBytes-front at new text p fits i =
    elim (cases_lt i (length text)) [
      | inl lt ↦ let is : take (length text) at.ahead ≡ text = rw p.bytes (take_at text new.ahead (length text) refl) in
          subst (λ (t : List ℕ). get_or t i 0 < 256) is (rw (get_or-take (length text) at.ahead i 0 lt) (fits i))
      | inr le ↦ rw (get_or_past text i 0 le) (omega arith)
    ]

-- ---- numbers

-- the bytes of a number below the limit give it back, and bytes of this length give a number below it
pub record IsWide (w : Width) (limit : ℕ) : Type 0 where
  pub len : (n : ℕ) → length (to_be_bytes w n) ≡ byte_len w
  pub back : (bytes : List ℕ) → length bytes ≡ byte_len w → AreBytes bytes → to_be_bytes w (from_be_bytes w bytes) ≡ bytes
  pub again : (n : ℕ) → n < limit → from_be_bytes w (to_be_bytes w n) ≡ n
  pub below : (bytes : List ℕ) → AreBytes bytes → from_be_bytes w bytes < limit

one_byte : (bytes : List ℕ) → length bytes ≡ 1 → AreBytes bytes → to_be_bytes w8 (from_be_bytes w8 bytes) ≡ bytes
one_byte [] len fits = absurd (omega (arith, len))
one_byte (b ∷ []) len fits = let small : b < 256 = fits 0 in let same : b % 256 ≡ b = omega arith in ap (λ (x : ℕ). x ∷ []) same
one_byte (b ∷ c ∷ bytes) len fits = absurd (omega (arith, len))

pub wide8 : IsWide w8 (2 ^ 8)
wide8 = record {
  len = λ n. refl;
  back = one_byte;
  again = λ n lt. omega (arith, lt);
  below = λ bytes fits. omega (arith, fits 0);
}

pub wide16 : IsWide w16 (2 ^ 16)
wide16 = record {
  len = λ n. refl;
  back = λ bytes len fits. be_bytes_2 bytes _ len fits refl;
  again = λ n lt. from_be_bytes-to_be_bytes_2 n lt;
  below = λ bytes fits. omega (arith, fits 0, fits 1);
}

pub wide32 : IsWide w32 (2 ^ 32)
wide32 = record {
  len = λ n. refl;
  back = λ bytes len fits. be_bytes_4 bytes _ len fits refl;
  again = λ n lt. from_be_bytes-to_be_bytes_4 n lt;
  below = λ bytes fits. omega (arith, fits 0, fits 1, fits 2, fits 3);
}

pub wide64 : IsWide w64 (2 ^ 64)
wide64 = record {
  len = λ n. refl;
  back = λ bytes len fits. be_bytes_8 bytes _ len fits refl;
  again = λ n lt. from_be_bytes-to_be_bytes_8 n lt;
  below = λ bytes fits. omega (arith, fits 0, fits 1, fits 2, fits 3, fits 4, fits 5, fits 6, fits 7);
}

pub length-number_text : (w : Width) (n : ℕ) → length (number_text w n) ≡ byte_len w
unfolding number_text
length-number_text w8 n = refl
length-number_text w16 n = refl
length-number_text w32 n = refl
length-number_text w64 n = refl
length-number_text w128 n = refl

pub number_again : (w : Width) (limit : ℕ) (wide : IsWide w limit) (n : ℕ) → n < limit → (at new : Cursor) → Passes at (number_text w n) new → number_at w at ≡ Ok (n, new)
unfolding number_at number_text
number_again w limit wide n lt at new p =
    rw (bytes_again (byte_len w) (to_be_bytes w n) at new (wide.len n) p, wide.again n lt) refl

pub number_pass : (w : Width) (limit : ℕ) (wide : IsWide w limit) (at new : Cursor) (n : ℕ) → AreBytes at.ahead → number_at w at ≡ Ok (n, new) → Passes at (number_text w n) new × (n < limit)
unfolding number_at number_text
number_pass w limit wide at new n fits e =
    let b = bind_ok (bytes_at (byte_len w) at) (λ bytes. Ok (from_be_bytes w bytes.0, bytes.1)) (n, new) e in
    let taken = bytes_pass (byte_len w) at b.0.1 b.0.0 b.1 in
    let is = ok_is (from_be_bytes w b.0.0, b.0.1) (n, new) b.2 in
    let bytes = AreBytes-front at b.0.1 b.0.0 taken.0 fits in
    let spelled : to_be_bytes w (from_be_bytes w b.0.0) ≡ b.0.0 = wide.back b.0.0 taken.1 bytes in
    let whole : Passes at (to_be_bytes w (from_be_bytes w b.0.0)) b.0.1 = rw spelled taken.0 in
    subst (λ (x : ℕ × Cursor). Passes at (to_be_bytes w x.0) x.1 × (x.0 < limit)) is (whole, wide.below b.0.0 bytes)

-- ---- counted bytes

pub counted_again : (bytes : List ℕ) → length bytes < 2 ^ 16 → (at new : Cursor) → Passes at (counted_text bytes) new → counted_at at ≡ Ok (bytes, new)
unfolding counted_at
counted_again bytes lt at new p =
    let count = number_text w16 (length bytes) in
    rw (number_again w16 (2 ^ 16) wide16 (length bytes) lt at (between at count (bytes ++ new.ahead)) (Passes-first at new count bytes p)) (bytes_again (length bytes) bytes (between at count (bytes ++ new.ahead)) new refl (Passes-second at new count bytes p))

pub counted_pass : (at new : Cursor) (bytes : List ℕ) → AreBytes at.ahead → counted_at at ≡ Ok (bytes, new) → Passes at (counted_text bytes) new × (length bytes < 2 ^ 16)
unfolding counted_at
counted_pass at new bytes fits e =
    let b = bind_ok (number_at w16 at) (λ count. bytes_at count.0 count.1) (bytes, new) e in
    let first = number_pass w16 (2 ^ 16) wide16 at b.0.1 b.0.0 fits b.1 in
    let second = bytes_pass b.0.0 b.0.1 new bytes b.2 in
    let both = Passes-then at b.0.1 new (number_text w16 b.0.0) bytes first.0 second.0 in
    (subst (λ (k : ℕ). Passes at (number_text w16 k ++ bytes) new) (sym second.1) both, omega (arith, second.1, first.1))
