-- What the second of two authorities has checked of a confirmation before it confirms it too, what it then sends to the
-- client, and which clients know the keys to judge that.
use Rattle.std.specs.Prelude.{◌≡◌, ◌≢◌, ℕ, ◌+◌, ◌<◌, ◌≤◌, List, [], ◌∷◌, length, map, slice_get, All, Option, Some, None}
use Rattle.lms_tree.specs.declared.public_key.LmsPublic.{LmsPublic}
use Rattle.lms_tree.specs.Key.{public_of}
use Rattle.lms_tree.specs.KeyParts.{KeyParts}
use Rattle.lms_tree.specs.LmsKind.{leaves_of}
use Rattle.ar_statement.specs.declared.party.Party.{Party}
use Rattle.ar_statement.specs.Claims.{authority_party, log_party, text_of, vote}
use Rattle.key_roll.specs.Due.{DueParts}
use Rattle.key_roll.specs.Entry.{after_entry, due_of}
use Rattle.key_roll.specs.Ring.{ring_signature_len}
use Rattle.party_keys.specs.Directory.{Directory, keys_of}
use Rattle.party_keys.specs.Signatures.{IsVerified, generation_of}
use Rattle.vote_quorum.specs.Numbers.{distinct_count}
use Rattle.ar_message.specs.declared.message.Confirming.{Confirming}
use Rattle.ar_message.specs.declared.message.Message.{Message}
use Rattle.ar_message.specs.declared.message.Message.TheVariants.{Confirmation, HalfConfirmed}
use Rattle.ar_message.specs.Filling.{signature_due}
use Rattle.ar_message.specs.Messages.{IsMessage, about_in, message_text, path_in, shown_in}
use Rattle.client_rule.specs.Meaning.{SignsConfirmation, IsShown, IsTimely}
use Rattle.client_rule.specs.Rule.{claim_on, Asked}
use Rattle.ar_council.specs.Council.{council_of}
use Rattle.ar_council.specs.Room.{HasRoom}
use Rattle.authority_core.specs.Honest.{IsOfHonestAuthority}
use Rattle.authority_core.specs.Record.{AuthorityRecord}
use Rattle.authority_core.specs.State.{AuthorityState}

-- ---- the authority

-- An authority where it stands: its number, the directory that it knows, what it remembers, and its key of each generation.
pub record Confirmer : Type 0 where
  pub me : ℕ
  pub keys : Directory
  pub past : AuthorityRecord
  pub ring : List KeyParts

-- the authority of a row, with its keys
abbrev pub confirmer_of : AuthorityState → List KeyParts → Confirmer
confirmer_of s ring = record { me = s.me; keys = s.keys; past = s.past; ring = ring }

-- The directory knows these keys of a party, that of generation 0 first, and each has so many leaves.
abbrev pub KnowsRing : Directory → Party → ℕ → List KeyParts → Type 0
KnowsRing keys party leaves ring =
    (g : ℕ) (key : KeyParts) → slice_get ring g ≡ Some key → (slice_get (keys_of keys party) g ≡ Some (public_of key)) × (leaves ≡ leaves_of key.lms)

-- It is an honest authority, with a key for each generation of its book, and its directory knows them.
pub record IsConfirmer (a : Confirmer) : Type 0 where
  pub honest : IsOfHonestAuthority (council_of a.keys) a.me a.past
  pub each : length a.ring ≡ a.past.signed.newest + 1
  pub known : KnowsRing a.keys (authority_party a.me) a.past.signed.leaves a.ring

-- The authority of a row, with its keys, is such a one, and the signatures of each key have as many bytes as the row leaves
-- blank.
pub record IsWithRing (s : AuthorityState) (ring : List KeyParts) : Type 0 where
  pub confirmer : IsConfirmer (confirmer_of s ring)
  pub bytes : (g : ℕ) (key : KeyParts) → slice_get ring g ≡ Some key → ring_signature_len key ≡ s.signature_len

-- ---- what it checks

-- the text of what it signs
abbrev pub own_text : Confirmer → Confirming → List ℕ
own_text a part = text_of (claim_on (about_in part) (shown_in part.body) (authority_party a.me))

-- a vote by which the epoch was decided is verified
abbrev pub IsVerifiedVote : Directory → Confirming → ℕ → List ℕ → Type 0
IsVerifiedVote keys part log signature = IsVerified keys (log_party log) (text_of (vote log part.epoch part.base part.root)) signature

-- The message is for this authority. The log, those that voted and the first authority are in its directory, and their
-- signatures are verified. A quorum voted, the path leads to the root, the two authorities are two, and there is a leaf for
-- what is signed.
pub record IsHalfConfirmed (a : Confirmer) (part : Confirming) (first_signature : List ℕ) : Type 0 where
  pub is_message : IsMessage (HalfConfirmed part first_signature)
  pub for_me : part.second ≡ a.me
  pub log : part.log < length a.keys.logs
  pub voters : All (λ v. v.log < length a.keys.logs) part.votes
  pub first : part.first < length a.keys.authorities
  pub log_signed : SignsConfirmation a.keys (about_in part) (shown_in part.body) (log_party part.log) part.signature
  pub first_signed : SignsConfirmation a.keys (about_in part) (shown_in part.body) (authority_party part.first) first_signature
  pub voters_signed : All (λ v. IsVerifiedVote a.keys part v.log v.signature) part.votes
  pub many : a.keys.quorum ≤ distinct_count (map (λ v. v.log) part.votes)
  pub path : IsShown (about_in part) (shown_in part.body) (path_in part.body)
  pub two : part.first ≢ part.second
  pub room : HasRoom a.past.signed (own_text a part ∷ [])

-- ---- what it sends

-- the signature that is due, by the key of its generation
abbrev pub signature_for : List KeyParts → Option DueParts → List ℕ
signature_for ring None = []
signature_for ring (Some due) = signature_due ring due

-- its signature of what it confirms, behind entering it into its book
abbrev pub own_signature : Confirmer → Confirming → List ℕ
own_signature a part = signature_for a.ring (due_of (after_entry a.past.signed (own_text a part)) (own_text a part))

-- the message to the client
abbrev pub to_client : Confirmer → Confirming → List ℕ → Message
to_client a part first_signature =
    Confirmation part.client part.epoch part.name part.root part.body part.log part.signature part.first first_signature a.me (own_signature a part)

-- its bytes
abbrev pub bytes_to_client : Confirmer → Confirming → List ℕ → List ℕ
bytes_to_client a part first_signature = message_text (to_client a part first_signature)

-- ---- the client

-- where one directory knows the key of the generation that a party's signature names, the other knows the same key
abbrev pub KnowsSigner : Directory → Directory → Party → List ℕ → Type 0
KnowsSigner one other party signature =
    (g : ℕ) (key : LmsPublic) → generation_of signature ≡ Some g → slice_get (keys_of one party) g ≡ Some key → slice_get (keys_of other party) g ≡ Some key

-- of the three signatures the client's directory knows the keys that the authority's knows
pub record KnowsSigners (a : Confirmer) (part : Confirming) (first_signature : List ℕ) (client : Directory) : Type 0 where
  pub log : KnowsSigner a.keys client (log_party part.log) part.signature
  pub first : KnowsSigner a.keys client (authority_party part.first) first_signature
  pub second : KnowsSigner a.keys client (authority_party a.me) (own_signature a part)

-- the client asked for this name, in time: not before the epoch, and not so late that the confirmation is too old for it or
-- for the certificate; and the certificate, where there is one, is neither revoked nor expired
pub record IsInTime (part : Confirming) (asked : Asked) : Type 0 where
  pub name : part.name ≡ asked.name
  pub timely : IsTimely asked part.epoch (shown_in part.body)
