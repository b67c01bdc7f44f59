-- The texts of parts.
use Rattle.std.specs.Prelude.{ℕ, List}
use Rattle.std.specs.Fmt.{decimal}
use Rattle.std.specs.List.{flat_map}
use Rattle.hex.specs.Hex.{encode_lower}
use Rattle.ar_text.specs.declared.part.Part.{Part}
use Rattle.ar_text.specs.declared.part.Part.TheVariants.{Bytes, Number, Digest}

-- the text of a part
abbrev pub part_text : Part → List ℕ
part_text (Bytes bytes) = bytes.now
part_text (Number number) = decimal number
part_text (Digest digest) = encode_lower digest.now

-- the text of parts, one behind the other
abbrev pub text_of_parts : List Part → List ℕ
text_of_parts parts = flat_map part_text parts
