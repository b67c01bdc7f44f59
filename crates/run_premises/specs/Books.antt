-- Whose book has a text, and which claims are no forgeries, as tests; and the claims of a message in the parts in which they are
-- gathered.
use Rattle.std.specs.Prelude.{ℕ, Bool, false, not, ◌||◌, is_ok, List, [], Contains}
use Rattle.std.specs.List.{list_all, list_any}
use Rattle.std.specs.Str.{bytes_eq}
use Rattle.ar_claims.specs.Claimed.{claimed_in, claimed_in_bytes}
use Rattle.ar_message.specs.declared.message.Message.{Message}
use Rattle.ar_message.specs.declared.message.Message.TheVariants.{EndorseAsk, Endorsed, Submit, Propose, Ballot, StatusNote, Decision, SkipNote, ConfirmAsk, LogConfirmed, HalfConfirmed, Confirmation, RollNote}
use Rattle.ar_safety.specs.Held.{Held, records_of}
use Rattle.ar_safety.specs.Records.{IsHonest, Records, signed_by}
use Rattle.ar_statement.specs.Claims.{has_party}
use Rattle.ar_statement.specs.declared.party.Role.{Role}
use Rattle.ar_statement.specs.declared.party.Role.TheVariants.{LogServer, Authority, Owner, Client}
use Rattle.key_roll.specs.Book.{RollBook}
use Rattle.party_keys.specs.Signatures.{IsVerified, verified}
use Rattle.party_keys.specs.Signers.{Claimed}

-- ---- books

-- the text stands in the book
abbrev pub holds : RollBook → List ℕ → Bool
holds book text = list_any (λ s. bytes_eq text s.text) book.list

-- the text stands in the book of the log or the authority with this number
abbrev pub holds_of : Records → Role → ℕ → List ℕ → Bool
holds_of r LogServer number text = holds (r.logs number).signed text
holds_of r Authority number text = holds (r.authorities number).signed text
holds_of r Owner number text = false
holds_of r Client number text = false

-- ---- forgeries

-- A claim is fair: its party is dishonest, or its signature is not valid under the keys that clients know, or the party's book
-- has its text.
unfoldable pub is_fair : Held → Claimed → Bool
is_fair h c =
    has_party h.dishonest c.party || (not (is_ok (verified h.directory c.party c.text c.signature))
    || holds_of (records_of h) c.party.role c.party.number c.text)

-- each claim of these bytes is fair
abbrev pub are_fair : Held → List ℕ → Bool
are_fair h bytes = list_all (is_fair h) (claimed_in_bytes bytes)

-- No signature that is valid under a key which clients know of an honest party stands in one of these messages, but on what that
-- party signed.
abbrev pub NoneForgedIn : Held → List (List ℕ) → Type 0
NoneForgedIn h messages = (bytes : List ℕ) (c : Claimed) → Contains messages bytes → Contains (claimed_in_bytes bytes) c
    → IsHonest (records_of h) c.party → IsVerified h.directory c.party c.text c.signature → Contains (signed_by (records_of h) c.party) c.text

-- ---- the claims of a message, in parts

-- those of a message of an epoch, as it passes between logs
abbrev pub claimed_of_logs : Message → List Claimed
claimed_of_logs (EndorseAsk owner cert) = []
claimed_of_logs (Endorsed owner authority certificate signature) = []
claimed_of_logs (Submit change) = []
claimed_of_logs (Propose log epoch base root changes signature) = claimed_in (Propose log epoch base root changes signature)
claimed_of_logs (Ballot log epoch base root signature) = claimed_in (Ballot log epoch base root signature)
claimed_of_logs (StatusNote log epoch value signature) = claimed_in (StatusNote log epoch value signature)
claimed_of_logs (Decision epoch base root changes votes) = claimed_in (Decision epoch base root changes votes)
claimed_of_logs (SkipNote epoch statuses) = claimed_in (SkipNote epoch statuses)
claimed_of_logs (ConfirmAsk client name first second) = []
claimed_of_logs (LogConfirmed part) = []
claimed_of_logs (HalfConfirmed part first_signature) = []
claimed_of_logs (Confirmation client epoch name root body log log_signature first first_signature second second_signature) = []
claimed_of_logs (RollNote party generation key signature) = []

-- those of each other message
abbrev pub claimed_of_others : Message → List Claimed
claimed_of_others (EndorseAsk owner cert) = []
claimed_of_others (Endorsed owner authority certificate signature) = []
claimed_of_others (Submit change) = claimed_in (Submit change)
claimed_of_others (Propose log epoch base root changes signature) = []
claimed_of_others (Ballot log epoch base root signature) = []
claimed_of_others (StatusNote log epoch value signature) = []
claimed_of_others (Decision epoch base root changes votes) = []
claimed_of_others (SkipNote epoch statuses) = []
claimed_of_others (ConfirmAsk client name first second) = []
claimed_of_others (LogConfirmed part) = claimed_in (LogConfirmed part)
claimed_of_others (HalfConfirmed part first_signature) = claimed_in (HalfConfirmed part first_signature)
claimed_of_others (Confirmation client epoch name root body log log_signature first first_signature second second_signature) = []
claimed_of_others (RollNote party generation key signature) = claimed_in (RollNote party generation key signature)

-- those of a confirmation
abbrev pub claimed_of_confirmations : Message → List Claimed
claimed_of_confirmations (EndorseAsk owner cert) = []
claimed_of_confirmations (Endorsed owner authority certificate signature) = []
claimed_of_confirmations (Submit change) = []
claimed_of_confirmations (Propose log epoch base root changes signature) = []
claimed_of_confirmations (Ballot log epoch base root signature) = []
claimed_of_confirmations (StatusNote log epoch value signature) = []
claimed_of_confirmations (Decision epoch base root changes votes) = []
claimed_of_confirmations (SkipNote epoch statuses) = []
claimed_of_confirmations (ConfirmAsk client name first second) = []
claimed_of_confirmations (LogConfirmed part) = []
claimed_of_confirmations (HalfConfirmed part first_signature) = []
claimed_of_confirmations (Confirmation client epoch name root body log log_signature first first_signature second second_signature) =
    claimed_in (Confirmation client epoch name root body log log_signature first first_signature second second_signature)
claimed_of_confirmations (RollNote party generation key signature) = []
