-- What makes a vote, a decision, a skip and a confirmation right, by what a log saw and how its epochs ended.
use Rattle.std.specs.Prelude.{◌≡◌, ◌≢◌, ℕ, ◌+◌, List, All, Contains, Option, Some, None, IfSome}
use Rattle.std.specs.Option.{option_map}
use Rattle.ar_cert.specs.Certificate.{digest_of}
use Rattle.ar_cert.specs.Changes.{Change, IsChange}
use Rattle.ar_cert.specs.Judging.{endorsers_of}
use Rattle.ar_statement.specs.declared.text.SeenText.{SeenText}
use Rattle.ar_statement.specs.Claims.{authority_party, endorse, log_party}
use Rattle.party_keys.specs.Seen.{Saw}
use Rattle.vote_quorum.specs.Statuses.{AreStatuses, Excludes, Status}
use Rattle.vote_quorum.specs.declared.value.Value.{Value}
use Rattle.domain_table.specs.Applying.{apply}
use Rattle.domain_table.specs.Tables.{Table, chain_of, newest}
use Rattle.domain_table.specs.Tree.{root_of}
use Rattle.ar_council.specs.Council.{Council}
use Rattle.ar_council.specs.Values.{status_claim}
use Rattle.ar_statement.specs.Ranges.{IsValue}
use Rattle.ar_council.specs.Votes.{SawVotes}
use Rattle.epoch_log.specs.Record.{base_of, ending}
use Rattle.epoch_log.specs.Told.{value_of}
use Rattle.epoch_log.specs.declared.entries.Confirmed.{Confirmed}
use Rattle.epoch_log.specs.declared.entries.Ended.{Ended}
use Rattle.epoch_log.specs.declared.entries.How.TheVariants.{Decided}
use Rattle.epoch_log.specs.declared.entries.Voted.{Voted}

-- ---- what was seen

-- the endorsement of a change's certificate was seen of each authority that endorses the change
abbrev pub SawEndorsements : List SeenText → Change → Type 0
SawEndorsements seen change = All (λ a. Saw seen (authority_party a) (endorse a (digest_of change.cert))) (endorsers_of change)

-- ---- votes and decisions

-- from a table the changes apply in an epoch to a table with this root
pub record Reaches (epoch : ℕ) (before : Table) (changes : List Change) (to : List ℕ) : Type 0 where
  pub table : Table
  pub applied : apply before epoch changes ≡ Some table
  pub is_root : root_of table ≡ to

-- the changes, which have texts, apply to a table with this root, and their endorsements were seen
pub record LeadsTo (seen : List SeenText) (epoch : ℕ) (before : Table) (changes : List Change) (to : List ℕ) : Type 0 where
  pub reaches : Reaches epoch before changes to
  pub are_changes : All IsChange changes
  pub endorsed : All (SawEndorsements seen) changes

-- a vote is for the base of its epoch, and its changes lead from there to its root
pub record IsRightVote (seen : List SeenText) (ended : List Ended) (v : Voted) : Type 0 where
  pub are_digests : IsValue (value_of v)
  pub from_base : v.base ≡ root_of (base_of ended v.epoch)
  pub leads : LeadsTo seen v.epoch (base_of ended v.epoch) v.changes v.root

-- an epoch is decided where its changes lead from its base to the root, and a quorum's votes for that were seen
pub record IsRightDecision (council : Council) (seen : List SeenText) (ended : List Ended) (epoch : ℕ) (changes : List Change) (to : List ℕ) : Type 0 where
  pub leads : LeadsTo seen epoch (base_of ended epoch) changes to
  pub votes : SawVotes council seen epoch (record { base = root_of (base_of ended epoch); root = to })

-- ---- skips

-- statuses of the epoch are of different logs of the council, and each was seen
pub record AreSeen (council : Council) (seen : List SeenText) (epoch : ℕ) (statuses : List Status) : Type 0 where
  pub of_logs : AreStatuses council.logs statuses
  pub values : All (λ s. IfSome s.1 IsValue) statuses
  pub saw : All (λ s. Saw seen (log_party s.0) (status_claim s.0 epoch s.1)) statuses

-- an epoch is skipped where statuses of different logs, each of which was seen, exclude each root
pub record IsRightSkip (council : Council) (seen : List SeenText) (epoch : ℕ) (statuses : List Status) : Type 0 where
  pub are_seen : AreSeen council seen epoch statuses
  pub excludes : Excludes council.logs council.quorum statuses

-- What is stated of an epoch fits the votes: no ballot where there is no vote of it, and else the vote's base and
-- root.
abbrev pub FitsVotes : List Voted → ℕ → Option Value → Type 0
FitsVotes voted epoch None = All (λ v. v.epoch ≢ epoch) voted
FitsVotes voted epoch (Some value) = (v : Voted) × (Contains voted v × (v.epoch ≡ epoch) × (v.base ≡ value.base) × (v.root ≡ value.root))

-- ---- confirmations

-- the digest of the newest certificate of a name, where it has one
abbrev pub newest_digest : Table → List ℕ → Option (List ℕ)
newest_digest table name = option_map digest_of (newest (chain_of table name))

-- a confirmation is of an epoch that was decided with its root, and tells what the name has behind that epoch
pub record IsRightConfirmation (ended : List Ended) (c : Confirmed) : Type 0 where
  pub changes : List Change
  pub decided : ending ended c.epoch ≡ Some (Decided changes c.root)
  pub newest : c.certificate ≡ newest_digest (base_of ended (c.epoch + 1)) c.name
