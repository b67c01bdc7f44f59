-- What a field that did not fail took from the bytes ahead.
use Rattle.std.proofs.Common.{◌≡◌, ℕ, ◌+◌, ◌≤◌, ltb, List, length, take, drop, Ok, sym, ap, ◌∙◌, arith}
use Rattle.std.specs.Int.{Width, byte_len, from_be_bytes}
use Rattle.std.proofs.lemmas.Bool.{ltb-false}
use Rattle.std.proofs.lemmas.List.{length-drop}
use Rattle.ar_bytes.specs.Reading.{Cursor, behind, bytes_at, number_at}
use Rattle.ar_bytes.proofs.Steps.{guard_ok}
use Rattle.ar_base.proofs.Shown.{bind_ok, ok_is}

-- the value is the front of what was ahead, and the rest is ahead then
pub record Took {A : Type 0} (at new : Cursor) (n : ℕ) (read : List ℕ → A) (x : A) : Type 0 where
  pub value : x ≡ read (take n at.ahead)
  pub rest : new.ahead ≡ drop n at.ahead
  pub within : n ≤ length at.ahead

pub bytes_taken : (n : ℕ) (at new : Cursor) (text : List ℕ) → bytes_at n at ≡ Ok (text, new) → Took at new n (λ bytes. bytes) text
unfolding bytes_at
bytes_taken n at new text e =
    let g = guard_ok (ltb (length at.ahead) n) at.place (take n at.ahead, behind n at) (text, new) e in
    record {
      value = sym (ap (λ (x : List ℕ × Cursor). x.0) g.1);
      rest = sym (ap (λ (x : List ℕ × Cursor). x.1.ahead) g.1);
      within = ltb-false _ _ g.0;
    }

pub number_taken : (w : Width) (at new : Cursor) (n : ℕ) → number_at w at ≡ Ok (n, new) → Took at new (byte_len w) (from_be_bytes w) n
unfolding number_at
number_taken w at new n e =
    let s = bind_ok (bytes_at (byte_len w) at) (λ bytes. Ok (from_be_bytes w bytes.0, bytes.1)) (n, new) e in
    let bytes = s.0 in
    let taken = bytes_taken (byte_len w) at bytes.1 bytes.0 s.1 in
    let same : ◌≡◌ {A = ℕ × Cursor} (from_be_bytes w bytes.0, bytes.1) (n, new) = ok_is _ _ s.2 in
    record {
      value = sym (ap (λ (x : ℕ × Cursor). x.0) same) ∙ ap (from_be_bytes w) taken.value;
      rest = sym (ap (λ (x : ℕ × Cursor). x.1.ahead) same) ∙ taken.rest;
      within = taken.within;
    }

-- how many bytes are left
pub left_of : {A : Type 0} (at new : Cursor) (n : ℕ) (read : List ℕ → A) (x : A) → Took at new n read x → length new.ahead + n ≡ length at.ahead
left_of at new n read x t = omega (arith, ap length t.rest, length-drop n at.ahead, t.within)
