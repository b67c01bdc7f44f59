-- How the hash of a message is cut into the digits that the chains sign (RFC 8554, sections 3.1.3
-- and 4.4).
use Rattle.std.specs.Prelude.{ℕ, ◌+◌, ◌-◌, ◌*◌, ◌/◌, ◌%◌, ◌^◌, List, ◌++◌, bit_and, slice_index}
use Rattle.std.specs.List.{sum_by, range_with_len}
use Rattle.std.specs.Int.{w16, to_be_bytes}
use Rattle.lm_ots.specs.declared.ots_type.OtsType.{OtsType}
use Rattle.lm_ots.specs.OtsKind.{width_of, shift_of}

-- coef(S, i, w): digit i of the string S, read as numbers of w bits, high bits first (section 3.1.3)
abbrev pub coef : List ℕ → ℕ → ℕ → ℕ
coef s i w = bit_and (2 ^ w - 1) (slice_index s (i * w / 8) / 2 ^ (8 - (w * (i % (8 / w)) + w)))

-- by how much digit i of S is less than the greatest digit, 2 ^ w - 1
abbrev pub gap : OtsType → List ℕ → ℕ → ℕ
gap kind s i = 2 ^ width_of kind - 1 - coef s i (width_of kind)

-- Cksm(S): the gaps of all digits of the 256 bits of S, added and shifted left by ls (section 4.4,
-- algorithm 2)
abbrev pub checksum : OtsType → List ℕ → ℕ
checksum kind s = sum_by (gap kind s) (range_with_len 0 (256 / width_of kind)) * 2 ^ shift_of kind

-- Q || Cksm(Q): what the digits are read from, the checksum as a u16 (section 4.5)
abbrev pub with_checksum : OtsType → List ℕ → List ℕ
with_checksum kind q = q ++ to_be_bytes w16 (checksum kind q)

-- digit i of Q || Cksm(Q) (section 4.5, algorithm 3)
abbrev pub digit : OtsType → List ℕ → ℕ → ℕ
digit kind q i = coef (with_checksum kind q) i (width_of kind)
