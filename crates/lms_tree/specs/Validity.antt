-- When a signature of a message is valid under a key (RFC 8554, sections 5.4 and 5.4.2).
use Rattle.std.specs.Prelude.{◌≡◌, ℕ, ◌+◌, ◌<◌, ◌==◌, nat_lt, Bool, List, [], ◌∷◌, length, Option, Some, None, Result, Ok, Err}
use Rattle.std.specs.Result.{result_ok}
use Rattle.std.specs.Str.{bytes_eq}
use Rattle.ar_base.specs.FirstFailing.{first_failing, AllHold, FailsFirst}
use Rattle.ar_bytes.specs.Reading.{whole}
use Rattle.lm_ots.specs.OtsKind as ots_kind
use Rattle.lm_ots.specs.Candidate.{candidate_key, type_number}
use Rattle.lms_tree.specs.LmsKind as lms_kind
use Rattle.lms_tree.specs.LmsKind.{leaves_of}
use Rattle.lms_tree.specs.Signature.{SignatureParts, lms_signature_len_of, signature_at}
use Rattle.lms_tree.specs.Tree.{leaf_node, go_up}
use Rattle.lms_tree.specs.declared.public_key.LmsPublic.{LmsPublic}
use Rattle.lms_tree.specs.declared.validity.Verdict.{Verdict}
use Rattle.lms_tree.specs.declared.validity.Verdict.TheVariants.{Valid, Invalid}

-- the parts of a signature, where it has the length of the key's types
unfoldable pub parts_of : LmsPublic → List ℕ → Option SignatureParts
parts_of key signature = result_ok (whole (signature_at key.lms key.ots) signature)

-- Tc: the value at the root that the parts of a signature lead to (section 5.4.2, algorithm 6a)
unfoldable pub candidate_root : LmsPublic → List ℕ → SignatureParts → List ℕ
candidate_root key message parts =
    let node = leaves_of key.lms + parts.leaf in
    go_up key.id node (leaf_node key.id node (candidate_key key.id parts.leaf key.ots message parts.one_time)) parts.path

-- the conditions on the parts, each with its number: 2 the LM-OTS type is the key's, 3 the LMS type is the
-- key's, 4 the leaf is one of the tree's, 5 the parts lead to the key's root
abbrev pub conditions_on : LmsPublic → List ℕ → Option SignatureParts → List (ℕ × Bool)
conditions_on key message None = []
conditions_on key message (Some parts) =
    (2, type_number parts.one_time == ots_kind.number_of key.ots)
    ∷ (3, parts.lms == lms_kind.number_of key.lms)
    ∷ (4, nat_lt parts.leaf (leaves_of key.lms))
    ∷ (5, bytes_eq (candidate_root key message parts) key.root) ∷ []

-- the five conditions: 1 the length is that of the key's types, so that there are parts, and those on the
-- parts
abbrev pub conditions : LmsPublic → List ℕ → List ℕ → List (ℕ × Bool)
conditions key message signature =
    (1, length signature == lms_signature_len_of key.lms key.ots) ∷ conditions_on key message (parts_of key signature)

-- the verdict where the conditions gave this
abbrev pub verdict : Result (Unit {0}) ℕ → Verdict
verdict (Ok _) = Valid
verdict (Err number) = Invalid number

-- Valid, or Invalid with the number of the first condition that fails
unfoldable pub verdict_of : LmsPublic → List ℕ → List ℕ → Verdict
verdict_of key message signature = verdict (first_failing (conditions key message signature))

-- ---- the conditions as facts

-- 1
abbrev pub HasLength : LmsPublic → List ℕ → Type 0
HasLength key signature = length signature ≡ lms_signature_len_of key.lms key.ots

-- the signature has parts of which something is true
abbrev pub OfParts : LmsPublic → List ℕ → (SignatureParts → Type 0) → Type 0
OfParts key signature is_true = (parts : SignatureParts) × ((parts_of key signature ≡ Some parts) × is_true parts)

-- 2
abbrev pub HasOtsType : LmsPublic → List ℕ → Type 0
HasOtsType key signature = OfParts key signature (λ parts. type_number parts.one_time ≡ ots_kind.number_of key.ots)

-- 3
abbrev pub HasLmsType : LmsPublic → List ℕ → Type 0
HasLmsType key signature = OfParts key signature (λ parts. parts.lms ≡ lms_kind.number_of key.lms)

-- 4
abbrev pub HasLeaf : LmsPublic → List ℕ → Type 0
HasLeaf key signature = OfParts key signature (λ parts. parts.leaf < leaves_of key.lms)

-- 5
abbrev pub LeadsToRoot : LmsPublic → List ℕ → List ℕ → Type 0
LeadsToRoot key message signature = OfParts key signature (λ parts. candidate_root key message parts ≡ key.root)

-- the five conditions
pub data Condition : Type 0 where
  has_length : Condition
  has_ots_type : Condition
  has_lms_type : Condition
  has_leaf : Condition
  leads_to_root : Condition

-- their numbers
abbrev pub number_of : Condition → ℕ
number_of has_length = 1
number_of has_ots_type = 2
number_of has_lms_type = 3
number_of has_leaf = 4
number_of leads_to_root = 5

-- all of them, in order of number
abbrev pub all_conditions : List Condition
all_conditions = has_length ∷ (has_ots_type ∷ (has_lms_type ∷ (has_leaf ∷ (leads_to_root ∷ []))))

-- what each says
abbrev pub Meets : LmsPublic → List ℕ → List ℕ → Condition → Type 0
Meets key message signature has_length = HasLength key signature
Meets key message signature has_ots_type = HasOtsType key signature
Meets key message signature has_lms_type = HasLmsType key signature
Meets key message signature has_leaf = HasLeaf key signature
Meets key message signature leads_to_root = LeadsToRoot key message signature

-- all five hold
abbrev pub MeetsAll : LmsPublic → List ℕ → List ℕ → Type 0
MeetsAll key message signature = AllHold (Meets key message signature) all_conditions

-- the condition with this number does not hold, and all before it do
abbrev pub MeetsUpTo : LmsPublic → List ℕ → List ℕ → ℕ → Type 0
MeetsUpTo key message signature k = FailsFirst number_of (Meets key message signature) all_conditions k
