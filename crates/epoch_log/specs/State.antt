-- Where a log stands: its record, what it has counted in the current epoch, and the newest decision; and what is kept
-- of it beside the record's own clauses.
use Rattle.std.specs.Prelude.{◌≡◌, ◌≢◌, ℕ, ◌^◌, ◌<◌, ◌≤◌, List, map, All, Contains, Option, Some, None}
use Rattle.ar_cert.specs.Changes.{Change}
use Rattle.ar_statement.specs.declared.text.SeenText.{SeenText}
use Rattle.party_keys.specs.Seen.{Saw}
use Rattle.ar_statement.specs.Claims.{log_party}
use Rattle.vote_quorum.specs.Ballots.{Ballot}
use Rattle.vote_quorum.specs.Numbers.{distinct_count}
use Rattle.vote_quorum.specs.Statuses.{Status}
use Rattle.vote_quorum.specs.declared.value.Value.{Value}
use Rattle.domain_table.specs.Tables.{Table}
use Rattle.domain_table.specs.Tree.{root_of}
use Rattle.ar_council.specs.Council.{Council}
use Rattle.ar_council.specs.Values.{vote_claim}
use Rattle.epoch_log.specs.Honest.{IsOfHonestLog}
use Rattle.epoch_log.specs.Record.{LogRecord, base_of, current, ending}
use Rattle.epoch_log.specs.Right.{AreSeen}
use Rattle.epoch_log.specs.declared.entries.Ended.{Ended}
use Rattle.epoch_log.specs.declared.entries.How.TheVariants.{Decided}
use Rattle.epoch_log.specs.declared.entries.Newest.{Newest}

-- a counted ballot: the log, what it votes for, and its signature; none for the log's own, counted at once
abbrev pub CountedVote : Type 0
CountedVote = ℕ × Value × Option (List ℕ)

-- a counted status: the log, the ballot that it reports, if any, and its signature; none for the log's own
abbrev pub CountedStatus : Type 0
CountedStatus = ℕ × Option Value × Option (List ℕ)

-- Where a log stands: its number and the council, its record, what it has counted in the current epoch, and the
-- newest decision.
pub record LogState : Type 0 where
  pub me : ℕ
  pub council : Council
  pub past : LogRecord
  pub votes : List CountedVote
  pub statuses : List CountedStatus
  pub newest : Option Newest

-- the current epoch
abbrev pub epoch_of : LogState → ℕ
epoch_of s = current s.past.ended

-- the table in which it begins
abbrev pub table_of : LogState → Table
table_of s = base_of s.past.ended (epoch_of s)

-- ballots without their signatures
abbrev pub ballots_of : List CountedVote → List Ballot
ballots_of votes = map (λ v. (v.0, v.1)) votes

-- statuses without their signatures, or what else stands beside a value
abbrev pub reports_of : {S : Type 0} → List (ℕ × Option Value × S) → List Status
reports_of statuses = map (λ s. (s.0, s.1)) statuses

-- what was decided last
abbrev pub newest_value : Newest → Value
newest_value w = record { base = w.base; root = w.root }

-- what the one saw the other saw too
abbrev pub SeesMore : LogState → LogState → Type 0
SeesMore s later = (t : SeenText) → Contains s.past.seen t → Contains later.past.seen t

-- a ballot of the epoch is of a log of the council, and was seen
pub record IsSeenVote (council : Council) (seen : List SeenText) (epoch : ℕ) (v : CountedVote) : Type 0 where
  pub log : v.0 < council.logs
  pub saw : Saw seen (log_party v.0) (vote_claim v.0 epoch v.1)

-- The newest decision is the last of those that ended, for this base and root, and votes of a quorum for it were seen.
pub record IsNewestDecision (council : Council) (seen : List SeenText) (ended : List Ended) (w : Newest) : Type 0 where
  pub changes : List Change
  pub decided : ending ended w.epoch ≡ Some (Decided changes w.root)
  pub last : (epoch : ℕ) (others : List Change) (to : List ℕ) → w.epoch < epoch → ending ended epoch ≢ Some (Decided others to)
  pub from_base : w.base ≡ root_of (base_of ended w.epoch)
  pub votes : All (λ v. Saw seen (log_party v.0) (vote_claim v.0 w.epoch (newest_value w))) w.votes
  pub many : council.quorum ≤ distinct_count (map (λ v. v.0) w.votes)

-- the newest decision is the record's: there is none exactly where no epoch was decided
abbrev pub KeepsNewest : Council → List SeenText → List Ended → Option Newest → Type 0
KeepsNewest council seen ended None = (epoch : ℕ) (changes : List Change) (to : List ℕ) → ending ended epoch ≢ Some (Decided changes to)
KeepsNewest council seen ended (Some w) = IsNewestDecision council seen ended w

-- What is kept of a log: its record is honest, what it has counted in the current epoch was seen, and the newest
-- decision is the record's.
pub record IsKeptLog (s : LogState) : Type 0 where
  pub number : s.me < 2 ^ 16
  pub honest : IsOfHonestLog s.council s.me s.past
  pub votes : All (IsSeenVote s.council s.past.seen (epoch_of s)) s.votes
  pub statuses : AreSeen s.council s.past.seen (epoch_of s) (reports_of s.statuses)
  pub newest : KeepsNewest s.council s.past.seen s.past.ended s.newest
