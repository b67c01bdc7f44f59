-- What logs and authorities are said to have signed: the claims that stand in a message, at the places whose signers a log,
-- an authority or a client verifies.
use Rattle.std.specs.Prelude.{ℕ, List, [], ◌∷◌, ◌++◌, flat_map, Result, Ok, Err}
use Rattle.ar_council.specs.Values.{status_claim, vote_claim}
use Rattle.ar_message.specs.Confirmation as confirmation
use Rattle.ar_message.specs.Confirmation.{Body, digest_in}
use Rattle.ar_message.specs.Messages.{confirmation_in, message_in, shown_in}
use Rattle.ar_message.specs.declared.message.Confirming.{Confirming}
use Rattle.ar_message.specs.declared.message.Message.{Message}
use Rattle.ar_message.specs.declared.message.Message.TheVariants.{EndorseAsk, Endorsed, Submit, Propose, Ballot, StatusNote, Decision, SkipNote, ConfirmAsk, LogConfirmed, HalfConfirmed, Confirmation, RollNote}
use Rattle.ar_statement.specs.Claims.{authority_party, confirmation_by, log_party, propose, roll, value_with}
use Rattle.ar_statement.specs.declared.party.Party.{Party}
use Rattle.lms_tree.specs.PublicKey.{key_text}
use Rattle.party_keys.specs.Signers.{Claimed, signed_by}
use Rattle.ar_claims.specs.Lists.{endorsements_in, claimed_statuses, claimed_votes}

-- a party confirms of an epoch what the table with the root has for the name
abbrev pub confirmed_in : ℕ → List ℕ → Body → List ℕ → Party → List ℕ → Claimed
confirmed_in epoch name shown root party signature = signed_by party (confirmation_by party epoch name (digest_in shown) root) signature

-- of a confirmation on its way, that of a party
abbrev pub confirmed_claim : Confirming → Party → List ℕ → Claimed
confirmed_claim part party signature = confirmed_in part.epoch part.name (shown_in part.body) part.root party signature

-- the votes behind it
abbrev pub votes_behind : Confirming → List Claimed
votes_behind part = claimed_votes part.epoch (value_with part.base part.root) part.votes

-- of a confirmation, that of the log, and those of both authorities
abbrev pub claimed_on : confirmation.Confirmation → List Claimed
claimed_on c =
    confirmed_in c.about.epoch c.about.name c.body c.about.root (log_party c.log.number) c.log.signature
    ∷ (confirmed_in c.about.epoch c.about.name c.body c.about.root (authority_party c.first.number) c.first.signature
    ∷ (confirmed_in c.about.epoch c.about.name c.body c.about.root (authority_party c.second.number) c.second.signature ∷ []))

-- Each claim of a message. What goes to an owner alone makes none: what an owner takes is verified again before a log takes it.
-- Nor do the signatures of owners, which no directory has the keys of.
abbrev pub claimed_in : Message → List Claimed
claimed_in (EndorseAsk owner cert) = []
claimed_in (Endorsed owner authority certificate signature) = []
claimed_in (Submit change) = endorsements_in change
claimed_in (Propose log epoch base root changes signature) =
    signed_by (log_party log) (propose log epoch base root) signature ∷ flat_map endorsements_in changes
claimed_in (Ballot log epoch base root signature) =
    signed_by (log_party log) (vote_claim log epoch (value_with base root)) signature ∷ []
claimed_in (StatusNote log epoch value signature) =
    signed_by (log_party log) (status_claim log epoch value) signature ∷ []
claimed_in (Decision epoch base root changes votes) =
    claimed_votes epoch (value_with base root) votes ++ flat_map endorsements_in changes
claimed_in (SkipNote epoch statuses) = claimed_statuses epoch statuses
claimed_in (ConfirmAsk client name first second) = []
claimed_in (LogConfirmed part) = confirmed_claim part (log_party part.log) part.signature ∷ votes_behind part
claimed_in (HalfConfirmed part first_signature) =
    confirmed_claim part (log_party part.log) part.signature
    ∷ (confirmed_claim part (authority_party part.first) first_signature ∷ votes_behind part)
claimed_in (Confirmation client epoch name root body log log_signature first first_signature second second_signature) =
    claimed_on (confirmation_in client epoch name root body log log_signature first first_signature second second_signature)
claimed_in (RollNote party generation key signature) = signed_by party (roll party generation (key_text key)) signature ∷ []

-- what was read, where it is a message
abbrev pub claimed_by : Result Message ℕ → List Claimed
claimed_by (Ok message) = claimed_in message
claimed_by (Err place) = []

-- the claims of bytes, by the message that they are; bytes that are none make none
unfoldable pub claimed_in_bytes : List ℕ → List Claimed
claimed_in_bytes bytes = claimed_by (message_in bytes)
