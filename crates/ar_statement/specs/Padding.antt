-- A text that is kept in the front of 330 bytes, with zeros behind it.
use Rattle.std.proofs.Common.{◌≡◌, ℕ, ◌-◌, ◌≤◌, List, ◌++◌, length, take, drop, sym, ap, ◌∙◌, arith}
use Rattle.std.specs.Prelude.{replicate}
use Rattle.std.proofs.lemmas.List.{length-take-le, take-append-drop, drop_at, length-append, length-drop, length-replicate, drop-replicate}

-- the bytes behind the first `len` are zero
pub record IsPadded (len : ℕ) (bytes : List ℕ) : Type 0 where
  pub within : len ≤ 330
  pub room : length bytes ≡ 330
  pub zeros : drop len bytes ≡ replicate (330 - len) 0

pub len_again : (len : ℕ) (bytes : List ℕ) → IsPadded len bytes → length (take len bytes) ≡ len
len_again len bytes p = length-take-le len bytes (omega (arith, p.within, p.room))

pub bytes_again : (len : ℕ) (bytes : List ℕ) → IsPadded len bytes → take len bytes ++ replicate (330 - len) 0 ≡ bytes
bytes_again len bytes p = rw (← p.zeros) (take-append-drop len bytes)

pub padded : (len : ℕ) (text bytes : List ℕ) → len ≤ 330 → len ≡ length text → bytes ≡ text ++ drop len (replicate 330 0) → IsPadded len bytes
padded len text bytes le is e =
    let zeros : List ℕ = replicate 330 0 in
    let many : length zeros ≡ 330 = length-replicate {A = ℕ} 330 0 in
    let rest : drop len bytes ≡ drop len zeros = rw e (drop_at text (drop len zeros) len (sym is)) in
    record {
      within = le;
      room = omega (arith, ap length e, length-append text (drop len zeros), length-drop len zeros, many, is);
      zeros = rest ∙ drop-replicate len 330 0;
    }
