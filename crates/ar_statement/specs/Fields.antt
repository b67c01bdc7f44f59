-- The fields that statements, certificates and messages share.
use Rattle.std.specs.Prelude.{ℕ, ◌^◌, Bool, List}
use Rattle.std.specs.Int.{w8, w64}
use Rattle.ar_base.specs.Chaining.{◌>>=◌}
use Rattle.ar_base.specs.Ranges.{IsFromTo, is_from_to}
use Rattle.ar_bytes.specs.Reading.{Cursor, Reading, bytes_at, number_at, such_that}
use Rattle.ar_names.specs.Names.{is_name}

-- the last epoch that a statement can name
abbrev pub last_epoch : ℕ
last_epoch = 2 ^ 63

-- epochs count from 1
abbrev pub IsEpoch : ℕ → Type 0
IsEpoch epoch = IsFromTo 1 last_epoch epoch

-- the test of it
abbrev pub is_epoch : ℕ → Bool
is_epoch epoch = is_from_to 1 last_epoch epoch

-- how many bytes a name has
abbrev pub is_name_len : ℕ → Bool
is_name_len len = is_from_to 1 253 len

-- a digest, 32 bytes
abbrev pub digest_at : Cursor → Reading (List ℕ)
digest_at at = bytes_at 32 at

-- an epoch in eight bytes
unfoldable pub epoch_at : Cursor → Reading ℕ
epoch_at at = such_that is_epoch (number_at w64) at

-- the length of a name in one byte, and the name
unfoldable pub name_at : Cursor → Reading (List ℕ)
name_at at = do
  len ← such_that is_name_len (number_at w8) at
  such_that is_name (bytes_at len.0) len.1
