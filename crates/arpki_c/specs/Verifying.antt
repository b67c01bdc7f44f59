-- The number of a signature: 0 it is valid, 1 to 5 the first condition that fails, 6 the text is that of no key.
use Rattle.std.specs.Prelude.{ℕ, List, Option, Some, None}
use Rattle.lms_tree.specs.PublicKey.{key_of_text}
use Rattle.lms_tree.specs.Validity.{verdict_of}
use Rattle.lms_tree.specs.declared.public_key.LmsPublic.{LmsPublic}
use Rattle.lms_tree.specs.declared.validity.Verdict.{Verdict}
use Rattle.lms_tree.specs.declared.validity.Verdict.TheVariants.{Valid, Invalid}

-- the number of the header's functions and layouts
abbrev pub abi : ℕ
abi = 1

abbrev pub verdict_number : Verdict → ℕ
verdict_number Valid = 0
verdict_number (Invalid condition) = condition

abbrev pub number_under : Option LmsPublic → List ℕ → List ℕ → ℕ
number_under None message signature = 6
number_under (Some key) message signature = verdict_number (verdict_of key message signature)

abbrev pub signature_number : List ℕ → List ℕ → List ℕ → ℕ
signature_number text message signature = number_under (key_of_text text) message signature
