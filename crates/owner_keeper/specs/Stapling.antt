-- What an owner goes by when it staples: the keys of logs and authorities, the TLS keys that its operator allows, and the staples that
-- it signed. A TLS key is told by its channel: SHA-256 of its SubjectPublicKeyInfo.
use Rattle.std.specs.Prelude.{ℕ, ◌-◌, ◌/◌, ◌==◌, nat_lt, Bool, not, ◌&&◌, if◌then◌else◌, List, [], filter, length, Option, None, Some, Result, Ok, Err}
use Rattle.std.specs.List.{list_any}
use Rattle.std.specs.Str.{bytes_eq}
use Rattle.ar_base.specs.Adding.{with_one}
use Rattle.ar_base.specs.Chaining.{◌>>=◌, need}
use Rattle.ar_cert.specs.Certificate.{Certificate, digest_of}
use Rattle.ar_message.specs.Messages.{message_in}
use Rattle.bound_challenge.specs.Challenges.{staple_challenge}
use Rattle.client_rule.specs.Notes.{note_of}
use Rattle.client_rule.specs.Rule.{Asked, judgement as judgement_of}
use Rattle.client_rule.specs.declared.judgement.Judgement.{Judgement}
use Rattle.client_rule.specs.declared.judgement.Judgement.TheVariants as judgement
use Rattle.owner_core.specs.Rows.{OwnerAnswer, staple_row}
use Rattle.owner_core.specs.State.{Owner}
use Rattle.party_keys.specs.Directory.{Directory}
use Rattle.party_keys.specs.Learning.{Announced, after_learning}
use Rattle.possession.specs.Connections.{epoch_in}
use Rattle.sign_book.specs.Book.{Book}
use Rattle.owner_keeper.specs.declared.permit.Permit.{Permit}
use Rattle.owner_keeper.specs.declared.refusal.OwnerOrderRefusal.{OwnerOrderRefusal}
use Rattle.owner_keeper.specs.declared.refusal.OwnerOrderRefusal.TheVariants.{KeptBack, NotAllowed, Older, Superseded, Unconfirmed}

-- a staple: for the certificate of which draft, of which epoch, and for which TLS key
pub record StapleParts : Type 0 where
  pub draft : ℕ
  pub epoch : ℕ
  pub channel : List ℕ

-- The directory of the owner's own client, the TLS keys that are allowed, and the staples that were signed, in the order in which
-- they were.
pub record Stapling : Type 0 where
  pub keys : Directory
  pub allowed : List Permit
  pub staples : List StapleParts

-- at first no TLS key is allowed
abbrev pub first_stapling : Directory → Stapling
first_stapling keys = record { keys = keys; allowed = []; staples = [] }

-- ---- the directory

-- it learns the key that a note announces, where it can; nothing else changes it
abbrev pub behind_note : Directory → Option Announced → Directory
behind_note keys None = keys
behind_note keys (Some announced) = after_learning keys announced

-- the directory behind a message that came
abbrev pub keys_behind : Directory → List ℕ → Directory
keys_behind keys bytes = behind_note keys (note_of (message_in bytes))

-- behind that message
abbrev pub hearing : Stapling → List ℕ → Stapling
hearing st bytes = record st { keys = keys_behind st.keys bytes }

-- ---- what is allowed

-- the TLS key with this channel is allowed, for the certificate of the same draft
abbrev pub is_permit : Permit → Permit → Bool
is_permit one other = one.draft == other.draft && bytes_eq one.channel other.channel

-- it is among these
abbrev pub is_allowed : List Permit → Permit → Bool
is_allowed allowed permit = list_any (is_permit permit) allowed

-- with one that is allowed
abbrev pub allowing : Permit → Stapling → Stapling
allowing permit st = record st { allowed = with_one (λ one more. is_permit more one) st.allowed permit }

-- with one that is allowed no longer
abbrev pub disallowing : Permit → Stapling → Stapling
disallowing permit st = record st { allowed = filter (λ one. not (is_permit permit one)) st.allowed }

-- ---- which staples were signed

-- the staple of an epoch for what is allowed
abbrev pub staple_at : Permit → ℕ → StapleParts
staple_at permit epoch = record { draft = permit.draft; epoch = epoch; channel = permit.channel }

-- what has to be allowed for a staple
abbrev pub permit_of : StapleParts → Permit
permit_of s = record { draft = s.draft; channel = s.channel }

-- two are one
abbrev pub is_staple : StapleParts → StapleParts → Bool
is_staple one other = one.draft == other.draft && (one.epoch == other.epoch && bytes_eq one.channel other.channel)

-- a staple was signed
abbrev pub is_stapled : List StapleParts → StapleParts → Bool
is_stapled staples s = list_any (is_staple s) staples

-- one of a later epoch was, for the same certificate
abbrev pub has_newer : List StapleParts → StapleParts → Bool
has_newer staples s = list_any (λ one. one.draft == s.draft && nat_lt s.epoch one.epoch) staples

-- with one that is signed
abbrev pub with_staple : Stapling → StapleParts → Stapling
with_staple st s = record st { staples = with_one (λ one more. is_staple more one) st.staples s }

-- ---- leaves

-- how many leaves of a book staples leave to handovers and objections: a half, and 32 at most
abbrev pub kept_back : ℕ → ℕ
kept_back leaves = if nat_lt 64 leaves then 32 else leaves / 2

-- how many leaves of a book serve no statement yet
abbrev pub free_of : Book → ℕ
free_of book = book.leaves - length book.texts

-- ---- what has to hold

-- A staple may be signed: its TLS key is allowed. One that was signed may be signed again; a new one is of no epoch before the newest
-- that was stapled for the same certificate, and more leaves are left than staples leave.
abbrev pub may_sign : Stapling → Book → StapleParts → Result (Unit {0}) OwnerOrderRefusal
may_sign st book s =
    if is_stapled st.staples s then Ok tt
    else (if has_newer st.staples s then Err Older
    else need (nat_lt (kept_back book.leaves) (free_of book)) KeptBack)

abbrev pub may_staple : Stapling → Book → StapleParts → Result (Unit {0}) OwnerOrderRefusal
may_staple st book s = do
  allowed ← need (is_allowed st.allowed (permit_of s)) NotAllowed
  may_sign st book s

-- what a client with this directory asks of a confirmation: the name of this certificate, in the confirmation's own epoch
abbrev pub asked_for : Directory → Certificate → List ℕ → Asked
asked_for keys cert confirmation = record { keys = keys; name = cert.name; epoch = epoch_in confirmation; age = 0 }

-- by what the client's rule makes of a confirmation of this epoch, this is the name's newest certificate
abbrev pub confirmed_as : Certificate → ℕ → Judgement → Result ℕ OwnerOrderRefusal
confirmed_as cert epoch (judgement.Accepted found digest at root) = if bytes_eq digest (digest_of cert) then Ok epoch else Err Superseded
confirmed_as cert epoch (judgement.Absent at root) = Err Superseded
confirmed_as cert epoch (judgement.Refused check) = Err (Unconfirmed check)

-- the epoch of a confirmation by which this is its name's newest certificate, under this directory; or why it is not
abbrev pub confirmed_epoch : Directory → Certificate → List ℕ → Result ℕ OwnerOrderRefusal
confirmed_epoch keys cert confirmation = confirmed_as cert (epoch_in confirmation) (judgement_of (asked_for keys cert confirmation) confirmation)

-- ---- what is signed

-- the owner answers the challenge of a staple, for this certificate
abbrev pub stapling_by : Owner → Certificate → StapleParts → OwnerAnswer (List ℕ)
stapling_by me cert s = staple_row me cert.name (digest_of cert) (staple_challenge s.epoch s.channel)
