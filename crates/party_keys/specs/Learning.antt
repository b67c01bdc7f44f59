-- How a directory comes to know the keys behind those of generation 0.
use Rattle.std.specs.Prelude.{ℕ, ◌+◌, nat_lt, Bool, if◌then◌else◌, List, [], ◌∷◌, ◌++◌, fold, length, take, slice_get, slice_set, Option, Some, None, Result, Ok, Err}
use Rattle.std.specs.Str.{bytes_eq}
use Rattle.lms_tree.specs.PublicKey.{key_text}
use Rattle.lms_tree.specs.declared.public_key.LmsPublic.{LmsPublic}
use Rattle.ar_statement.specs.declared.party.Role.{Role}
use Rattle.ar_statement.specs.declared.party.Role.TheVariants.{LogServer, Authority, Owner, Client}
use Rattle.ar_statement.specs.declared.party.Party.{Party}
use Rattle.ar_statement.specs.Claims.{Claim, roll, text_of}
use Rattle.party_keys.specs.Directory.{Directory, keys_at, keys_of}
use Rattle.party_keys.specs.Signatures.{verified}
use Rattle.party_keys.specs.declared.fault.VerifyFault.{VerifyFault}
use Rattle.party_keys.specs.declared.fault.VerifyFault.TheVariants as verify_fault
use Rattle.party_keys.specs.declared.fault.LearnFault.{LearnFault}
use Rattle.party_keys.specs.declared.fault.LearnFault.TheVariants.{Unknown, Bad, Other}
use Rattle.party_keys.specs.declared.learning.Learned.{Learned}
use Rattle.party_keys.specs.declared.learning.Learned.TheVariants.{New, Again}

-- what a party announces: behind its key of this generation comes this key, with its signature of the Roll
-- that says so
pub record Announced : Type 0 where
  pub party : Party
  pub generation : ℕ
  pub key : LmsPublic
  pub signature : List ℕ

-- the statement that the party signs so
abbrev pub roll_claim : Announced → Claim
roll_claim a = roll a.party a.generation (key_text a.key)

-- ---- a key more

-- the keys of the parties of a role, with these as the keys of one of them
abbrev pub with_keys_at : List (List LmsPublic) → ℕ → List LmsPublic → List (List LmsPublic)
with_keys_at lists number keys = slice_set lists number keys

-- a party's keys up to a generation, and this one as the next
abbrev pub next_behind : ℕ → LmsPublic → List LmsPublic → List LmsPublic
next_behind generation key keys = take (generation + 1) keys ++ key ∷ []

-- the keys of the parties of a role, with this key as the next behind a generation of one of them
abbrev pub with_next_at : List (List LmsPublic) → ℕ → ℕ → LmsPublic → List (List LmsPublic)
with_next_at lists number generation key = with_keys_at lists number (next_behind generation key (keys_at lists number))

-- the directory in which this key is the next behind a generation of the party, and the newest
abbrev pub with_next_of : Role → Directory → ℕ → ℕ → LmsPublic → Directory
with_next_of LogServer keys number generation key = record keys { logs = with_next_at keys.logs number generation key }
with_next_of Authority keys number generation key = record keys { authorities = with_next_at keys.authorities number generation key }
with_next_of Owner keys number generation key = keys
with_next_of Client keys number generation key = keys

abbrev pub with_next : Directory → Party → ℕ → LmsPublic → Directory
with_next keys party generation key = with_next_of party.role keys party.number generation key

-- ---- learning

-- two keys are one, by their texts
abbrev pub is_key : LmsPublic → LmsPublic → Bool
is_key one other = bytes_eq (key_text one) (key_text other)

-- what is learnt of a key whose Roll is verified, where this key, another or none is known in its place
abbrev pub learned_as : Option LmsPublic → LmsPublic → Result Learned LearnFault
learned_as None key = Ok New
learned_as (Some known) key = if is_key known key then Ok Again else Err Other

-- why nothing is learnt where the Roll is not verified
abbrev pub fault_of : VerifyFault → LearnFault
fault_of (verify_fault.Unknown party) = Unknown
fault_of (verify_fault.Bad k) = Bad k

-- what is learnt where the Roll was verified so
abbrev pub learned_if : Result (Unit {0}) VerifyFault → Option LmsPublic → LmsPublic → Result Learned LearnFault
learned_if (Ok _) known key = learned_as known key
learned_if (Err fault) known key = Err (fault_of fault)

-- What a directory learns: the key that the party announces is new to it, or known as the next behind the
-- announced generation already. It learns nothing where the Roll is not verified, or another key is known
-- there.
unfoldable pub learned : Directory → Announced → Result Learned LearnFault
learned keys a =
    learned_if (verified keys a.party (text_of (roll_claim a)) a.signature)
    (slice_get (keys_of keys a.party) (a.generation + 1)) a.key

-- the directory behind what it learnt
abbrev pub learning : Result Learned LearnFault → Directory → Announced → Directory
learning (Ok New) keys a = with_next keys a.party a.generation a.key
learning (Ok Again) keys a = keys
learning (Err fault) keys a = keys

abbrev pub after_learning : Directory → Announced → Directory
after_learning keys a = learning (learned keys a) keys a

-- the directory behind all of these, in order
abbrev pub after_all : Directory → List Announced → Directory
after_all keys announced = fold after_learning keys announced

-- ---- a party's own next key

-- The directory in which a party knows its own next key: behind a generation that is known of it stands this
-- key, and what was known behind that is dropped.
abbrev pub after_adopting : Directory → Party → ℕ → LmsPublic → Directory
after_adopting keys party generation key =
    if nat_lt generation (length (keys_of keys party)) then with_next keys party generation key else keys
