-- The LM-OTS types (RFC 8554, section 4.1, table 1), all with SHA-256 and n = 32. A name that ends in
-- `_of` is a column of the table.
use Rattle.std.specs.Prelude.{ℕ, ◌+◌, ◌*◌, Option, Some, None, ◌==◌, if◌then◌else◌}
use Rattle.lm_ots.specs.declared.ots_type.OtsType.{OtsType}
use Rattle.lm_ots.specs.declared.ots_type.OtsType.TheVariants.{W1, W2, W4, W8}

-- the type's number, as keys and signatures carry it
abbrev pub number_of : OtsType → ℕ
number_of W1 = 1
number_of W2 = 2
number_of W4 = 3
number_of W8 = 4

-- w: the width in bits of a digit, by which a chain is signed
abbrev pub width_of : OtsType → ℕ
width_of W1 = 1
width_of W2 = 2
width_of W4 = 4
width_of W8 = 8

-- p: the number of chains
abbrev pub count_of : OtsType → ℕ
count_of W1 = 265
count_of W2 = 133
count_of W4 = 67
count_of W8 = 34

-- ls: by how many bits the checksum is shifted left
abbrev pub shift_of : OtsType → ℕ
shift_of W1 = 7
shift_of W2 = 6
shift_of W4 = 4
shift_of W8 = 0

-- the bytes of a signature: its type in 4, C in 32, and p elements of 32 (section 4.5)
abbrev pub signature_len_of : OtsType → ℕ
signature_len_of kind = 36 + 32 * count_of kind

-- the type of a number
abbrev pub type_of_number : ℕ → Option OtsType
type_of_number n =
    if n == 1 then Some W1 else (if n == 2 then Some W2 else (if n == 3 then Some W4 else
    (if n == 4 then Some W8 else None)))
