-- Keys that sign, made from a seed, and their signatures (RFC 8554, sections 5.2 to 5.4). How I comes
-- from the seed is this project's own choice.
use Rattle.std.specs.Prelude.{ℕ, zero, suc, ◌+◌, ◌-◌, ◌*◌, ◌/◌, ◌%◌, ◌^◌, ◌==◌, List, ◌∷◌, map, take, Option, Some, None, Result, Ok, Err, if◌then◌else◌}
use Rattle.std.specs.List.{range_with_len}
use Rattle.sha2.specs.Sha256.{sha256}
use Rattle.lm_ots.specs.declared.ots_type.OtsType.{OtsType}
use Rattle.lm_ots.specs.declared.secret.OtsSecret.{OtsSecret}
use Rattle.lm_ots.specs.OtsKind as ots_kind
use Rattle.lm_ots.specs.Signing as one_time
use Rattle.lms_tree.specs.LmsKind as lms_kind
use Rattle.lms_tree.specs.LmsKind.{height_of, leaves_of}
use Rattle.lms_tree.specs.KeyParts.{KeyParts}
use Rattle.lms_tree.specs.Signature.{SignatureParts, signature_text}
use Rattle.lms_tree.specs.Tree.{leaf_node, inner_node}
use Rattle.lms_tree.specs.declared.lms_type.LmsType.{LmsType}
use Rattle.lms_tree.specs.declared.lms_type.LmsType.TheVariants.{H5, H10, H15}
use Rattle.lms_tree.specs.declared.public_key.LmsPublic.{LmsPublic}
use Rattle.lms_tree.specs.declared.key.KeyFault.{KeyFault}
use Rattle.lms_tree.specs.declared.key.KeyFault.TheVariants.{Kind}

-- the LMS type of a number, where keys of it are made: those of at most 2 ^ 15 leaves
abbrev pub type_to_make : ℕ → Option LmsType
type_to_make n =
    if n == 5 then Some H5 else (if n == 6 then Some H10 else (if n == 7 then Some H15 else None))

-- the key of two types and a seed, where there are the types
abbrev pub key_of_types : List ℕ → Option LmsType → Option OtsType → Result KeyParts KeyFault
key_of_types seed (Some lms) (Some ots) = Ok (record { seed = seed; lms = lms; ots = ots })
key_of_types seed (Some lms) None = Err Kind
key_of_types seed None ots = Err Kind

-- what making a key of two numbers gives, where memory lasts
abbrev pub made : List ℕ → ℕ → ℕ → Result KeyParts KeyFault
made seed lms ots = key_of_types seed (type_to_make lms) (ots_kind.type_of_number ots)

-- I: the first 16 bytes of H(0x49 || SEED)
unfoldable pub id_of : List ℕ → List ℕ
id_of seed = take 16 (sha256 (0x49 ∷ seed))

-- the one-time private key of a leaf
abbrev pub secret_of : KeyParts → ℕ → OtsSecret
secret_of key leaf =
    record { id = id_of key.seed; leaf = leaf; kind = key.ots; seed = key.seed }

-- T[r] of a node at a height above the leaves: of leaf r - 2 ^ h at height 0, else of its children
-- 2r and 2r + 1 (section 5.3)
unfoldable pub node_at : KeyParts → ℕ → ℕ → List ℕ
node_at key zero r =
    leaf_node (id_of key.seed) r (one_time.public_key_of (secret_of key (r - leaves_of key.lms)))
node_at key (suc height) r =
    inner_node (id_of key.seed) r (node_at key height (2 * r)) (node_at key height (2 * r + 1))

-- the public key: both types, I, and T[1]
abbrev pub public_of : KeyParts → LmsPublic
public_of key =
    record { lms = key.lms; ots = key.ots; id = id_of key.seed; root = node_at key (height_of key.lms) 1 }

-- the other child of a node's parent
abbrev pub sibling_of : ℕ → ℕ
sibling_of r = if r % 2 == 1 then r - 1 else r + 1

-- path[k] of a leaf: the sibling of the node over the leaf at height k (section 5.4)
abbrev pub path_element : KeyParts → ℕ → ℕ → List ℕ
path_element key leaf k = node_at key k (sibling_of ((leaves_of key.lms + leaf) / 2 ^ k))

-- the parts of a signature: q, the LM-OTS signature, the LMS type, and the path path[0] .. path[h - 1]
abbrev pub signed_parts : KeyParts → ℕ → List ℕ → SignatureParts
signed_parts key leaf message = record {
  leaf = leaf;
  one_time = one_time.signature_of (secret_of key leaf) message;
  lms = lms_kind.number_of key.lms;
  path = map (path_element key leaf) (range_with_len 0 (height_of key.lms));
}

-- Sign: the signature of a message by a leaf (section 5.4)
unfoldable pub signature_of : KeyParts → ℕ → List ℕ → List ℕ
signature_of key leaf message = signature_text (signed_parts key leaf message)
