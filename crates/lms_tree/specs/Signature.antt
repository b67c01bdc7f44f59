-- The text of an LMS signature (RFC 8554, section 5.4).
use Rattle.std.specs.Prelude.{◌≡◌, ℕ, ◌+◌, ◌*◌, ◌<◌, ◌^◌, List, ◌++◌, length, All, Ok}
use Rattle.std.specs.List.{concat}
use Rattle.std.specs.Simd.{first_chunks}
use Rattle.std.specs.Int.{w32}
use Rattle.ar_base.specs.Chaining.{◌>>=◌}
use Rattle.ar_bytes.specs.Reading.{Cursor, Reading, bytes_at, number_at}
use Rattle.ar_bytes.specs.RoundTrip.{number_text}
use Rattle.lm_ots.specs.declared.ots_type.OtsType.{OtsType}
use Rattle.lm_ots.specs.OtsKind.{signature_len_of}
use Rattle.lms_tree.specs.LmsKind.{height_of}
use Rattle.lms_tree.specs.declared.lms_type.LmsType.{LmsType}

-- q, the number of the leaf; the LM-OTS signature, which begins with the number of its type; the number
-- of the LMS type; and the path, from the leaf's sibling upwards
pub record SignatureParts : Type 0 where
  pub leaf : ℕ
  pub one_time : List ℕ
  pub lms : ℕ
  pub path : List (List ℕ)

-- u32 q || LM-OTS signature || u32 LMS type || path[0] .. path[h - 1]
unfoldable pub signature_text : SignatureParts → List ℕ
signature_text parts =
    number_text w32 parts.leaf ++ (parts.one_time ++ (number_text w32 parts.lms
    ++ concat parts.path))

-- how many bytes a signature of two types has
abbrev pub lms_signature_len_of : LmsType → OtsType → ℕ
lms_signature_len_of lms ots = 8 + signature_len_of ots + 32 * height_of lms

-- the parts of a signature that has the lengths of two types, whatever types it names
unfoldable pub signature_at : LmsType → OtsType → Cursor → Reading SignatureParts
signature_at lms ots at = do
  leaf ← number_at w32 at
  one_time ← bytes_at (signature_len_of ots) leaf.1
  kind ← number_at w32 one_time.1
  path ← bytes_at (32 * height_of lms) kind.1
  Ok (record { leaf = leaf.0; one_time = one_time.0; lms = kind.0; path = first_chunks 32 (height_of lms) path.0 }, path.1)

-- the parts have the lengths of two types, and numbers of four bytes
pub record FitsTypes (lms : LmsType) (ots : OtsType) (parts : SignatureParts) : Type 0 where
  pub leaf : parts.leaf < 2 ^ 32
  pub one_time : length parts.one_time ≡ signature_len_of ots
  pub number : parts.lms < 2 ^ 32
  pub steps : length parts.path ≡ height_of lms
  pub nodes : All (λ node. length node ≡ 32) parts.path
