-- Which values the fields of a statement have: what the types keep, and what a statement may say.
use Rattle.std.specs.Prelude.{◌≡◌, ℕ, ◌^◌, ◌<◌, Bool, true, false, ◌&&◌, List, length, take, drop, IsTrue, IfSome}
use Rattle.std.specs.Int.{w32, from_be_bytes}
use Rattle.ar_base.specs.Bytes.{AreBytes, IsDigest}
use Rattle.ar_base.specs.Ranges.{is_from_to}
use Rattle.ar_names.specs.Names.{IsName}
use Rattle.ar_statement.specs.declared.party.Role.{Role}
use Rattle.ar_statement.specs.declared.party.Role.TheVariants.{LogServer, Authority, Owner, Client}
use Rattle.ar_statement.specs.Claims.{Claim, endorse, handover, propose, vote, confirm, confirm_absent, answer, status, roll, object, signer_of, text_of}
use Rattle.ar_statement.specs.Fields.{is_epoch}
use Rattle.vote_quorum.specs.declared.value.Value.{Value}

-- ---- what the types keep

-- a base and a root, both digests
pub record IsValue (value : Value) : Type 0 where
  pub base : IsDigest value.base
  pub root : IsDigest value.root

-- the 56 bytes of a public key
pub record IsKeyText (key : List ℕ) : Type 0 where
  pub len : length key ≡ 56
  pub bytes : AreBytes key

-- the fields have the widths of a statement's fields, and names are names
abbrev pub HasFields : Claim → Type 0
HasFields (endorse authority certificate) = IsDigest certificate
HasFields (handover certificate) = IsDigest certificate
HasFields (propose log epoch base root) = (epoch < 2 ^ 64) × (IsDigest base × IsDigest root)
HasFields (vote log epoch base root) = (epoch < 2 ^ 64) × (IsDigest base × IsDigest root)
HasFields (confirm signer epoch name certificate root) = (epoch < 2 ^ 64) × (IsName name × (IsDigest certificate × IsDigest root))
HasFields (confirm_absent signer epoch name root) = (epoch < 2 ^ 64) × (IsName name × IsDigest root)
HasFields (answer name certificate challenge) = IsName name × (IsDigest certificate × IsDigest challenge)
HasFields (status log epoch value) = (epoch < 2 ^ 64) × IfSome value IsValue
HasFields (roll signer generation key) = (generation < 2 ^ 32) × IsKeyText key
HasFields (object certificate) = IsDigest certificate

-- a statement that the types can hold, whether or not one may sign it
pub record IsHeld (claim : Claim) : Type 0 where
  pub signer : (signer_of claim).number < 2 ^ 16
  pub fields : HasFields claim

-- ---- what a statement may say

-- logs and authorities confirm, and have keys of several generations
abbrev pub is_witness : Role → Bool
is_witness LogServer = true
is_witness Authority = true
is_witness Owner = false
is_witness Client = false

-- the bytes begin with the number of an LMS type, 5 to 9, and of an LM-OTS type, 1 to 4
unfoldable pub is_readable : List ℕ → Bool
is_readable key =
    is_from_to 5 9 (from_be_bytes w32 (take 4 key)) && is_from_to 1 4 (from_be_bytes w32 (take 4 (drop 4 key)))

-- epochs are from 1 to 2 ^ 63, logs and authorities confirm and roll, and a key is one that can be read
abbrev pub is_in_range : Claim → Bool
is_in_range (endorse authority certificate) = true
is_in_range (handover certificate) = true
is_in_range (propose log epoch base root) = is_epoch epoch
is_in_range (vote log epoch base root) = is_epoch epoch
is_in_range (confirm signer epoch name certificate root) = is_witness signer.role && is_epoch epoch
is_in_range (confirm_absent signer epoch name root) = is_witness signer.role && is_epoch epoch
is_in_range (answer name certificate challenge) = true
is_in_range (status log epoch value) = is_epoch epoch
is_in_range (roll signer generation key) = is_witness signer.role && is_readable key
is_in_range (object certificate) = true

-- a statement that is read from its text
pub record IsValid (claim : Claim) : Type 0 where
  pub held : IsHeld claim
  pub ranges : IsTrue (is_in_range claim)

-- the text is that of a valid statement of which P holds
pub record IsTextOf (P : Claim → Type 0) (text : List ℕ) : Type 0 where
  pub claim : Claim
  pub valid : IsValid claim
  pub holds : P claim
  pub is : text_of claim ≡ text
