-- Numbers that are bytes, and the length of a digest.
use Rattle.std.specs.Prelude.{◌≡◌, ℕ, ◌<◌, List, length, slice_index}

-- numbers that are bytes
abbrev pub AreBytes : List ℕ → Type 0
AreBytes bytes = (i : ℕ) → slice_index bytes i < 256

-- 32 bytes
pub record IsDigest (digest : List ℕ) : Type 0 where
  pub len : length digest ≡ 32
  pub bytes : AreBytes digest
