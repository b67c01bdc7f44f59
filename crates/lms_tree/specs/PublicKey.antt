-- The text of an LMS public key (RFC 8554, section 5.3).
use Rattle.std.specs.Prelude.{◌≡◌, ℕ, Bool, ◌==◌, ◌&&◌, List, ◌++◌, length, take, drop, Option, Ok, is_some}
use Rattle.std.specs.Result.{result_ok}
use Rattle.std.specs.Int.{w32, from_be_bytes}
use Rattle.ar_base.specs.Chaining.{◌>>=◌}
use Rattle.ar_bytes.specs.Reading.{Cursor, Reading, bytes_at, known_at, number_at, whole}
use Rattle.ar_bytes.specs.RoundTrip.{number_text}
use Rattle.lm_ots.specs.OtsKind as ots_kind
use Rattle.lms_tree.specs.LmsKind as lms_kind
use Rattle.lms_tree.specs.declared.public_key.LmsPublic.{LmsPublic}

-- u32 LMS type || u32 LM-OTS type || I || T[1]
unfoldable pub key_text : LmsPublic → List ℕ
key_text key =
    number_text w32 (lms_kind.number_of key.lms) ++ (number_text w32 (ots_kind.number_of key.ots)
    ++ (key.id ++ key.root))

-- a type by its number, which fails where it is no type's
unfoldable pub type_at : {A : Type 0} → (ℕ → Option A) → Cursor → Reading A
type_at type_of_number = known_at type_of_number (number_at w32)

-- the fields of a key
unfoldable pub key_at : Cursor → Reading LmsPublic
key_at at = do
  lms ← type_at lms_kind.type_of_number at
  ots ← type_at ots_kind.type_of_number lms.1
  id ← bytes_at 16 ots.1
  root ← bytes_at 32 id.1
  Ok (record { lms = lms.0; ots = ots.0; id = id.0; root = root.0 }, root.1)

-- the key that bytes are the text of
unfoldable pub key_of_text : List ℕ → Option LmsPublic
key_of_text bytes = result_ok (whole key_at bytes)

-- whether bytes are the text of a key: there are 56, and both types are known
unfoldable pub is_key_text : List ℕ → Bool
is_key_text bytes =
    (length bytes == 56) && (is_some (lms_kind.type_of_number (from_be_bytes w32 (take 4 bytes)))
    && is_some (ots_kind.type_of_number (from_be_bytes w32 (take 4 (drop 4 bytes)))))

-- I has 16 bytes and T[1] has 32, as in each key of a program
abbrev pub HasWidths : LmsPublic → Type 0
HasWidths key = (length key.id ≡ 16) × (length key.root ≡ 32)
