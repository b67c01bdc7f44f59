-- The lists of messages: changes, votes and statuses, each behind its count in one byte; their fields with the
-- place of the first that fails, and their texts.
use Rattle.std.specs.Prelude.{ℕ, ◌^◌, ◌<◌, ◌≤◌, List, ◌++◌, length, Ok, IfSome}
use Rattle.std.specs.List.{AllByRecursion}
use Rattle.std.specs.Int.{w16}
use Rattle.ar_base.specs.Chaining.{◌>>=◌}
use Rattle.ar_bytes.specs.Reading.{Cursor, Reading, counted_at}
use Rattle.ar_bytes.specs.RoundTrip.{number_text, counted_text}
use Rattle.ar_bytes.specs.Ascending.{ascending_at, number_from, Ascend}
use Rattle.ar_bytes.specs.Joined.{optional_at, optional_text}
use Rattle.ar_statement.specs.Claims.{most_parties, value_text}
use Rattle.ar_bytes.specs.Lists.{counted_list_at, counted_list_text, list_at}
use Rattle.ar_statement.specs.Ranges.{IsValue}
use Rattle.ar_statement.specs.Texts.{value_at}
use Rattle.ar_cert.specs.Changes.{Change, IsChange, IsSignature, change_at, change_text}
use Rattle.ar_message.specs.declared.lists.Vote.{Vote}
use Rattle.ar_message.specs.declared.lists.LogStatus.{LogStatus}

-- ---- changes

-- at most 64 changes
abbrev pub changes_at : Cursor → Reading (List Change)
changes_at = counted_list_at 64 (list_at change_at)

abbrev pub changes_text : List Change → List ℕ
changes_text = counted_list_text change_text

abbrev pub AreChanges : List Change → Type 0
AreChanges changes = (length changes ≤ 64) × AllByRecursion IsChange changes

-- ---- votes

-- a vote of a log whose number is not below `least`
unfoldable pub vote_from : ℕ → Cursor → Reading Vote
vote_from least at = do
  log ← number_from least at
  signature ← counted_at log.1
  Ok (record { log = log.0; signature = signature.0 }, signature.1)

-- so many votes of logs whose numbers ascend strictly, and are not below `least`
abbrev pub votes_from : ℕ → ℕ → Cursor → Reading (List Vote)
votes_from = ascending_at (λ v. v.log) vote_from

-- votes, no more than there are logs, of logs whose numbers ascend strictly
abbrev pub votes_at : Cursor → Reading (List Vote)
votes_at = counted_list_at most_parties (λ count at. votes_from count 0 at)

abbrev pub vote_text : Vote → List ℕ
vote_text v = number_text w16 v.log ++ counted_text v.signature

abbrev pub votes_text : List Vote → List ℕ
votes_text = counted_list_text vote_text

-- a vote that has a text
abbrev pub IsVote : Vote → Type 0
IsVote v = (v.log < 2 ^ 16) × IsSignature v.signature

abbrev pub AreVotes : List Vote → Type 0
AreVotes votes = (length votes ≤ most_parties) × Ascend (λ v. v.log) IsVote 0 votes

-- ---- statuses

-- a status of a log whose number is not below `least`
unfoldable pub status_from : ℕ → Cursor → Reading LogStatus
status_from least at = do
  log ← number_from least at
  value ← optional_at value_at log.1
  signature ← counted_at value.1
  Ok (record { log = log.0; value = value.0; signature = signature.0 }, signature.1)

-- so many statuses of logs whose numbers ascend strictly, and are not below `least`
abbrev pub statuses_from : ℕ → ℕ → Cursor → Reading (List LogStatus)
statuses_from = ascending_at (λ v. v.log) status_from

-- statuses, no more than there are logs, of logs whose numbers ascend strictly
abbrev pub statuses_at : Cursor → Reading (List LogStatus)
statuses_at = counted_list_at most_parties (λ count at. statuses_from count 0 at)

abbrev pub status_text : LogStatus → List ℕ
status_text v = number_text w16 v.log ++ (optional_text value_text v.value ++ counted_text v.signature)

abbrev pub statuses_text : List LogStatus → List ℕ
statuses_text = counted_list_text status_text

-- a status that has a text
abbrev pub IsStatus : LogStatus → Type 0
IsStatus v = (v.log < 2 ^ 16) × IfSome v.value IsValue × IsSignature v.signature

abbrev pub AreLogStatuses : List LogStatus → Type 0
AreLogStatuses statuses = (length statuses ≤ most_parties) × Ascend (λ v. v.log) IsStatus 0 statuses
