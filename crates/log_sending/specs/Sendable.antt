-- That what a log may have to send fits into messages: the ballots and statuses that it counts, the votes of its newest
-- decision, and the changes that it voted for.
use Rattle.std.specs.Prelude.{◌≡◌, ◌≢◌, ℕ, ◌^◌, ◌<◌, ◌≤◌, List, [], ◌∷◌, length, All, Option, IfSome}
use Rattle.std.specs.List.{AllByRecursion}
use Rattle.ar_bytes.specs.Ascending.{Ascend}
use Rattle.ar_cert.specs.Changes.{IsSignature}
use Rattle.ar_statement.specs.Claims.{most_parties}
use Rattle.ar_message.specs.Lists.{AreChanges, AreLogStatuses, AreVotes}
use Rattle.ar_statement.specs.Ranges.{IsValue}
use Rattle.epoch_log.specs.State.{CountedStatus, CountedVote, LogState}
use Rattle.epoch_log.specs.declared.foreseeing.Foreseen.{Foreseen}
use Rattle.epoch_log.specs.declared.foreseeing.Foreseen.TheVariants as foreseen
use Rattle.log_sending.specs.Sending.{sent_statuses, sent_votes}

-- a signature that is kept, if there is one, fits into a message
abbrev pub FitsIn : Option (List ℕ) → Type 0
FitsIn signature = IfSome signature IsSignature

-- ballots of different logs, or for different values
abbrev pub AreApart : CountedVote → CountedVote → Type 0
AreApart v w = v.0 ≡ w.0 → v.1 ≢ w.1

-- ballots of these logs in the order of their numbers, none of which is below `least`: each log has at most one for a value
abbrev pub AreBallots : ℕ → ℕ → List CountedVote → Type 0
AreBallots logs least [] = Unit {0}
AreBallots logs least (v ∷ votes) = (least ≤ v.0) × (v.0 < logs) × FitsIn v.2 × AllByRecursion (AreApart v) votes × AreBallots logs v.0 votes

-- a status of one of these logs
abbrev pub IsReport : ℕ → CountedStatus → Type 0
IsReport logs s = (s.0 < logs) × IfSome s.1 IsValue × FitsIn s.2

-- statuses of different logs, in the order of their numbers
abbrev pub AreReports : ℕ → ℕ → List CountedStatus → Type 0
AreReports logs = Ascend (λ s. s.0) (IsReport logs)

-- a vote of a decision
abbrev pub IsVoice : ℕ × Option (List ℕ) → Type 0
IsVoice v = (v.0 < 2 ^ 16) × FitsIn v.1

-- the votes of a decision: no more than there are logs, and of different ones, in the order of their numbers
abbrev pub AreVoices : List (ℕ × Option (List ℕ)) → Type 0
AreVoices votes = (length votes ≤ most_parties) × Ascend (λ v. v.0) IsVoice 0 votes

-- what a log may have to send fits into messages
pub record CanBeSent (s : LogState) : Type 0 where
  pub logs : s.council.logs ≤ most_parties
  pub votes : AreBallots s.council.logs 0 s.votes
  pub statuses : AreReports s.council.logs 0 s.statuses
  pub newest : IfSome s.newest (λ w. AreVoices w.votes)
  pub voted : All (λ v. AreChanges v.changes) s.past.voted

-- what is foreseen of a step fits into a message, where signatures of the log's own have so many bytes
abbrev pub CanBeTold : ℕ → Foreseen → Type 0
CanBeTold len foreseen.Open = Unit {0}
CanBeTold len (foreseen.Decided changes w) = AreChanges changes × AreVotes (sent_votes len w.votes)
CanBeTold len (foreseen.Skipped statuses) = AreLogStatuses (sent_statuses len statuses)
