-- The keys with which logs and authorities begin, and what is printed of them.
use Rattle.std.specs.Prelude.{ℕ, ◌+◌, List, [], ◌++◌, map, replicate, Option, ◌∷◌, slice_get}
use Rattle.std.specs.List.{range_with_len}
use Rattle.ar_statement.specs.Claims.{party}
use Rattle.ar_statement.specs.declared.party.Party.{Party}
use Rattle.ar_statement.specs.declared.party.Role.{Role}
use Rattle.key_roll.specs.Ring.{RingParts}
use Rattle.lm_ots.specs.declared.ots_type.OtsType.{OtsType}
use Rattle.lm_ots.specs.declared.ots_type.OtsType.TheVariants.{W4}
use Rattle.lms_tree.specs.Key.{public_of}
use Rattle.lms_tree.specs.KeyParts.{KeyParts}
use Rattle.lms_tree.specs.PublicKey.{key_text}
use Rattle.lms_tree.specs.declared.lms_type.LmsType.{LmsType}
use Rattle.lms_tree.specs.declared.lms_type.LmsType.TheVariants.{H5}
use Rattle.lms_tree.specs.declared.public_key.LmsPublic.{LmsPublic}
use Rattle.party_keys.specs.Seeds.{seed_of}
use Rattle.report_text.specs.declared.happening.Happening.{Happening}
use Rattle.report_text.specs.declared.happening.Happening.TheVariants.{Made}
use Rattle.sha2.specs.Sha256.{sha256}

-- ---- the setup

-- what the setup says: the secret of which all keys are made, the types of the keys of logs and authorities, how many logs
-- there are, and how many of them are a quorum
pub record Setup : Type 0 where
  pub secret : List ℕ
  pub lms : LmsType
  pub ots : OtsType
  pub logs : ℕ
  pub quorum : ℕ

-- without lines of the setup: a secret of 32 zero bytes, the types 5 and 3, and no logs
abbrev pub plain_setup : Setup
plain_setup = record { secret = replicate 32 0; lms = H5; ots = W4; logs = 0; quorum = 0 }

-- ---- keys

-- the first key of a log or authority
abbrev pub key_for : Setup → Role → ℕ → KeyParts
key_for setup role number = record { seed = seed_of setup.secret role number; lms = setup.lms; ots = setup.ots }

-- the first keys of so many parties of a role
abbrev pub keys_for : Setup → Role → ℕ → List KeyParts
keys_for setup role count = map (key_for setup role) (range_with_len 0 count)

-- a key of a party is made
abbrev pub key_made : Party → KeyParts → Happening
key_made who key = Made who (sha256 (key_text (public_of key)))

-- so are the keys of so many parties of a role
abbrev pub keys_made : Setup → Role → ℕ → List Happening
keys_made setup role count = map (λ number. key_made (party role number) (key_for setup role number)) (range_with_len 0 count)

-- the first of a party's keys
abbrev pub first_key : List KeyParts → Option KeyParts
first_key keys = slice_get keys 0

-- ---- in rings

-- the first keys of the parties of a role by number, each in a ring of its own, and their public keys
pub record FirstKeys : Type 0 where
  pub rings : List RingParts
  pub publics : List LmsPublic

-- a ring with this key alone
abbrev pub first_ring : KeyParts → RingParts
first_ring key = record { keys = key ∷ []; room = 0 }

-- these keys so
abbrev pub first_of : List KeyParts → FirstKeys
first_of keys = record { rings = map first_ring keys; publics = map public_of keys }

-- one key more
abbrev pub with_first : FirstKeys → KeyParts → FirstKeys
with_first first key = record { rings = first.rings ++ first_ring key ∷ []; publics = first.publics ++ public_of key ∷ [] }
