-- The records of a run: who is dishonest, what each honest log and authority remembers, and what clients accepted and
-- learnt; and the words for who is honest and who signed what.
use Rattle.std.specs.Prelude.{◌≡◌, ℕ, ◌+◌, ◌*◌, ◌<◌, ◌≤◌, Bool, false, List, [], ◌∷◌, map, Contains}
use Rattle.ar_base.specs.Bytes.{AreBytes}
use Rattle.ar_statement.specs.declared.party.Role.{Role}
use Rattle.ar_statement.specs.declared.party.Role.TheVariants.{LogServer, Authority, Owner, Client}
use Rattle.ar_statement.specs.declared.party.Party.{Party}
use Rattle.ar_statement.specs.declared.text.SeenText.{SeenText}
use Rattle.ar_statement.specs.Claims.{authority_party, log_party, most_parties, has_party}
use Rattle.key_roll.specs.Book.{texts_of}
use Rattle.ar_message.specs.Confirmation.{Confirmation}
use Rattle.client_rule.specs.Meaning.{PassesChecks}
use Rattle.client_rule.specs.Rule.{claim_on, Asked}
use Rattle.ar_council.specs.Council.{Council, IsMember, council_of}
use Rattle.party_keys.specs.Seen.{seen_of}
use Rattle.epoch_log.specs.Calls.{fresh}
use Rattle.epoch_log.specs.Record.{LogRecord}
use Rattle.authority_core.specs.Calls.{fresh_authority}
use Rattle.authority_core.specs.Record.{AuthorityRecord}

-- what a client asked, the bytes that it accepted, and the confirmation that they are
pub record AcceptedConfirmation : Type 0 where
  pub asked : Asked
  pub bytes : List ℕ
  pub confirmation : Confirmation

-- The council, the dishonest parties, the record of each log and of each authority by its number, what clients accepted, and
-- the Rolls that their directory learnt, each with its party. What stands at a dishonest number is never read.
pub record Records : Type 0 where
  pub council : Council
  pub dishonest : List Party
  pub logs : ℕ → LogRecord
  pub authorities : ℕ → AuthorityRecord
  pub judged : List AcceptedConfirmation
  pub learned : List SeenText

abbrev pub is_dishonest : Records → Party → Bool
is_dishonest r party = has_party r.dishonest party

-- a log or authority of the council that is not among the dishonest parties
pub record IsHonest (r : Records) (party : Party) : Type 0 where
  pub known : IsMember r.council party
  pub honest : is_dishonest r party ≡ false

abbrev pub IsHonestLog : Records → ℕ → Type 0
IsHonestLog r log = IsHonest r (log_party log)

-- ---- sizes, and what is accepted

-- two quorums share more than two logs, and there are few logs and authorities
pub record AreQuorums (council : Council) : Type 0 where
  pub wide : council.logs + 2 < 2 * council.quorum
  pub few : council.logs ≤ most_parties
  pub few_authorities : council.authorities ≤ most_parties

-- a client accepted the bytes, under a directory of the council
pub record IsJudged (council : Council) (j : AcceptedConfirmation) : Type 0 where
  pub bytes : AreBytes j.bytes
  pub passes : PassesChecks j.asked j.bytes j.confirmation
  pub same_council : council_of j.asked.keys ≡ council

-- ---- who signed what

-- what a party signed, by its own book
abbrev pub signed_in : Records → Role → ℕ → List (List ℕ)
signed_in r LogServer number = texts_of (r.logs number).signed
signed_in r Authority number = texts_of (r.authorities number).signed
signed_in r Owner number = []
signed_in r Client number = []

abbrev pub signed_by : Records → Party → List (List ℕ)
signed_by r party = signed_in r party.role party.number

-- the statements that a log or an authority saw, each with its party
abbrev pub seen_in : Records → Role → ℕ → List SeenText
seen_in r LogServer number = (r.logs number).seen
seen_in r Authority number = (r.authorities number).seen
seen_in r Owner number = []
seen_in r Client number = []

abbrev pub seen_by : Records → Party → List SeenText
seen_by r party = seen_in r party.role party.number

-- of each honest party whose statement was seen, the statement stands in its book
abbrev pub AreSigned : Records → List SeenText → Type 0
AreSigned r seen =
    (party : Party) (text : List ℕ) → IsHonest r party → Contains seen (record { party = party; text = text }) → Contains (signed_by r party) text

-- the three that signed a confirmation: the log, and the two authorities
abbrev pub signers : Confirmation → List Party
signers c = log_party c.log.number ∷ (authority_party c.first.number ∷ (authority_party c.second.number ∷ []))

-- the statements that it carries, one of each of them
abbrev pub carried_by : Confirmation → Party → SeenText
carried_by c party = seen_of party (claim_on c.about c.body party)

abbrev pub carried : Confirmation → List SeenText
carried c = map (carried_by c) (signers c)

-- ---- the beginning

-- no party is dishonest, each log and authority has done nothing yet, and no client accepted or learnt anything
abbrev pub fresh_records : Council → ℕ → Records
fresh_records council leaves = record {
  council = council;
  dishonest = [];
  logs = λ log. (fresh log council leaves).past;
  authorities = λ authority. fresh_authority leaves;
  judged = [];
  learned = [];
}
