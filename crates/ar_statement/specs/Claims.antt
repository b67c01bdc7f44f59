-- What parties sign, and the one text of each statement.
use Rattle.std.specs.Prelude.{ℕ, ◌==◌, Bool, ◌&&◌, List, ◌++◌, length, Option, Some, None}
use Rattle.std.specs.Int.{w8, w16, w32, w64}
use Rattle.std.specs.List.{list_any}
use Rattle.ar_bytes.specs.RoundTrip.{number_text}
use Rattle.ar_bytes.specs.Joined.{optional_text}
use Rattle.ar_statement.specs.declared.party.Role.{Role}
use Rattle.ar_statement.specs.declared.party.Role.TheVariants.{LogServer, Authority, Owner, Client}
use Rattle.ar_statement.specs.declared.party.Party.{Party}
use Rattle.ar_statement.specs.declared.statement.Statement.{Statement}
use Rattle.ar_statement.specs.declared.statement.Statement.TheVariants as variants
use Rattle.vote_quorum.specs.declared.value.Value.{Value}

-- what a ballot is for: the table with the root `base` leads to the one with the root `root`
abbrev pub value_with : List ℕ → List ℕ → Value
value_with base root = record { base = base; root = root }

-- What a statement says, without where it lies in memory. Digests are lists of 32 bytes.
pub data Claim : Type 0 where
  -- the authority vouches that the certificate's subject owns its name
  endorse : (authority : ℕ) (certificate : List ℕ) → Claim
  -- the owner whose key the certificate replaces agrees to it
  handover : (certificate : List ℕ) → Claim
  -- the log proposes to go from the table with the root `base` to the one with the root `root`
  propose : (log : ℕ) (epoch : ℕ) (base root : List ℕ) → Claim
  -- the log votes for this
  vote : (log : ℕ) (epoch : ℕ) (base root : List ℕ) → Claim
  -- at the end of the epoch the name has this certificate, in the table with this root
  confirm : (signer : Party) (epoch : ℕ) (name certificate root : List ℕ) → Claim
  -- at the end of the epoch the name has none
  confirm_absent : (signer : Party) (epoch : ℕ) (name root : List ℕ) → Claim
  -- the owner of the name has the key of the certificate, and answers the challenge
  answer : (name certificate challenge : List ℕ) → Claim
  -- the log voted in the epoch for the base and the root, or for nothing and will not
  status : (log : ℕ) (epoch : ℕ) (value : Option Value) → Claim
  -- the key behind the signer's key of this generation is this one
  roll : (signer : Party) (generation : ℕ) (key : List ℕ) → Claim
  -- the owner whose key the certificate would replace objects to it
  object : (certificate : List ℕ) → Claim

-- a statement of the program as contracts compare it
abbrev pub claim_of : Statement → Claim
claim_of (variants.Endorse authority certificate) = endorse authority certificate
claim_of (variants.Handover certificate) = handover certificate
claim_of (variants.Propose log epoch base root) = propose log epoch base root
claim_of (variants.Vote log epoch base root) = vote log epoch base root
claim_of (variants.Confirm signer epoch name certificate root) = confirm signer epoch name certificate root
claim_of (variants.ConfirmAbsent signer epoch name root) = confirm_absent signer epoch name root
claim_of (variants.Answer name certificate challenge) = answer name certificate challenge
claim_of (variants.Status log epoch value) = status log epoch value
claim_of (variants.Roll signer generation key) = roll signer generation key
claim_of (variants.Object certificate) = object certificate

-- a party's confirmation that under a name there is a certificate with this digest, or none
abbrev pub confirmation_by : Party → ℕ → List ℕ → Option (List ℕ) → List ℕ → Claim
confirmation_by signer epoch name None root = confirm_absent signer epoch name root
confirmation_by signer epoch name (Some certificate) root = confirm signer epoch name certificate root

-- ---- parties

-- the most logs, and the most authorities, of a directory
abbrev pub most_parties : ℕ
most_parties = 16

-- the number of a role in texts
abbrev pub role_number : Role → ℕ
role_number LogServer = 1
role_number Authority = 2
role_number Owner = 3
role_number Client = 4

-- the party with this role and number
abbrev pub party : Role → ℕ → Party
party role number = record { role = role; number = number }

-- the log, the authority, the owner and the client with this number
abbrev pub log_party : ℕ → Party
log_party number = party LogServer number

abbrev pub authority_party : ℕ → Party
authority_party number = party Authority number

abbrev pub owner_party : ℕ → Party
owner_party number = party Owner number

abbrev pub client_party : ℕ → Party
client_party number = party Client number

-- a party in a text: the number of its role, and its own
abbrev pub party_text : Party → List ℕ
party_text signer = number_text w8 (role_number signer.role) ++ number_text w16 signer.number

-- both are one party
abbrev pub is_party : Party → Party → Bool
is_party one other = role_number one.role == role_number other.role && one.number == other.number

-- a party is one of these
abbrev pub has_party : List Party → Party → Bool
has_party parties who = list_any (is_party who) parties

-- ---- texts: the kind, the signer, and the fields

-- the number of a statement's kind; 5 is none
abbrev pub kind_of : Claim → ℕ
kind_of (endorse authority certificate) = 1
kind_of (handover certificate) = 2
kind_of (propose log epoch base root) = 3
kind_of (vote log epoch base root) = 4
kind_of (confirm signer epoch name certificate root) = 6
kind_of (confirm_absent signer epoch name root) = 7
kind_of (answer name certificate challenge) = 8
kind_of (status log epoch value) = 9
kind_of (roll signer generation key) = 10
kind_of (object certificate) = 11

-- who signs a statement. An owner's number is 0, since its key names it.
abbrev pub signer_of : Claim → Party
signer_of (endorse authority certificate) = authority_party authority
signer_of (handover certificate) = owner_party 0
signer_of (propose log epoch base root) = log_party log
signer_of (vote log epoch base root) = log_party log
signer_of (confirm signer epoch name certificate root) = signer
signer_of (confirm_absent signer epoch name root) = signer
signer_of (answer name certificate challenge) = owner_party 0
signer_of (status log epoch value) = log_party log
signer_of (roll signer generation key) = signer
signer_of (object certificate) = owner_party 0

-- a name behind its length
abbrev pub name_text : List ℕ → List ℕ
name_text name = number_text w8 (length name) ++ name

-- the base and the root of a value, one behind the other
abbrev pub value_text : Value → List ℕ
value_text value = value.base ++ value.root

-- what stands behind the signer
abbrev pub fields_text : Claim → List ℕ
fields_text (endorse authority certificate) = certificate
fields_text (handover certificate) = certificate
fields_text (propose log epoch base root) = number_text w64 epoch ++ (base ++ root)
fields_text (vote log epoch base root) = number_text w64 epoch ++ (base ++ root)
fields_text (confirm signer epoch name certificate root) = number_text w64 epoch ++ (name_text name ++ (certificate ++ root))
fields_text (confirm_absent signer epoch name root) = number_text w64 epoch ++ (name_text name ++ root)
fields_text (answer name certificate challenge) = name_text name ++ (certificate ++ challenge)
fields_text (status log epoch value) = number_text w64 epoch ++ optional_text value_text value
fields_text (roll signer generation key) = number_text w32 generation ++ key
fields_text (object certificate) = certificate

-- the front of a text: its kind, and its signer
abbrev pub head : ℕ → Party → List ℕ
head kind signer = number_text w8 kind ++ party_text signer

-- the one text of a statement
unfoldable pub text_of : Claim → List ℕ
text_of claim = head (kind_of claim) (signer_of claim) ++ fields_text claim
