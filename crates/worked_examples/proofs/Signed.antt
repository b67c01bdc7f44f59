-- What a key signs by its first leaf is valid under its public key.
use Rattle.std.proofs.Common.{◌≡◌, ◌^◌, ℕ, ◌<◌, List, arith}
use Rattle.lms_tree.specs.Key.{public_of, signature_of}
use Rattle.lms_tree.specs.KeyParts.{KeyParts}
use Rattle.lms_tree.specs.LmsKind.{height_of}
use Rattle.lms_tree.specs.Validity.{verdict_of}
use Rattle.lms_tree.specs.declared.lms_type.LmsType.{LmsType}
use Rattle.lms_tree.specs.declared.lms_type.LmsType.TheVariants.{H5, H10, H15, H20, H25}
use Rattle.lms_tree.specs.declared.validity.Verdict.TheVariants.{Valid}
use Rattle.lms_tree.proofs.SigningLemmas.{verdict_of-signature_of}

-- there is a first leaf
has-leaf : (lms : LmsType) → 0 < 2 ^ height_of lms
has-leaf H5 = omega arith
has-leaf H10 = omega arith
has-leaf H15 = omega arith
has-leaf H20 = omega arith
has-leaf H25 = omega arith

pub signed-valid : (key : KeyParts) (message : List ℕ) → verdict_of (public_of key) message (signature_of key 0 message) ≡ Valid
signed-valid key message = verdict_of-signature_of key 0 message (has-leaf key.lms)

pub ruleset signed_is_valid = (signed-valid)
