-- The LMS types with SHA-256 and m = 32 (RFC 8554, section 5.1, table 2).
use Rattle.std.specs.Prelude.{ℕ, ◌^◌, Option, Some, None, ◌==◌, if◌then◌else◌}
use Rattle.lms_tree.specs.declared.lms_type.LmsType.{LmsType}
use Rattle.lms_tree.specs.declared.lms_type.LmsType.TheVariants.{H5, H10, H15, H20, H25}

-- the type's number, as keys and signatures carry it
abbrev pub number_of : LmsType → ℕ
number_of H5 = 5
number_of H10 = 6
number_of H15 = 7
number_of H20 = 8
number_of H25 = 9

-- h: the height of the tree
abbrev pub height_of : LmsType → ℕ
height_of H5 = 5
height_of H10 = 10
height_of H15 = 15
height_of H20 = 20
height_of H25 = 25

-- how many leaves the tree has
abbrev pub leaves_of : LmsType → ℕ
leaves_of kind = 2 ^ height_of kind

-- the type of a number
abbrev pub type_of_number : ℕ → Option LmsType
type_of_number n =
    if n == 5 then Some H5 else (if n == 6 then Some H10 else (if n == 7 then Some H15 else
    (if n == 8 then Some H20 else (if n == 9 then Some H25 else None))))
