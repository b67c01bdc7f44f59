-- What it is that a record is an honest log's: nine clauses, each a definition over the fields that it speaks of.
use Rattle.std.specs.Prelude.{◌≡◌, ◌≢◌, ℕ, ◌+◌, ◌^◌, ◌<◌, ◌≤◌, List, All, AllPairs, Contains, Some, length, slice_get}
use Rattle.ar_cert.specs.Changes.{Change}
use Rattle.ar_statement.specs.declared.text.SeenText.{SeenText}
use Rattle.ar_statement.specs.Claims.{text_of}
use Rattle.ar_statement.specs.Ranges.{IsTextOf}
use Rattle.key_roll.specs.Book.{RollBook, IsRollBook, texts_of}
use Rattle.vote_quorum.specs.Statuses.{Status}
use Rattle.ar_council.specs.Seen.{SeesMembers}
use Rattle.ar_council.specs.Council.{Council}
use Rattle.ar_council.specs.Values.{status_claim, vote_claim}
use Rattle.epoch_log.specs.Record.{LogRecord, current, ending}
use Rattle.epoch_log.specs.Right.{FitsVotes, IsRightConfirmation, IsRightDecision, IsRightSkip, IsRightVote}
use Rattle.epoch_log.specs.Told.{ToldByLog, confirmation_claim, value_of}
use Rattle.epoch_log.specs.declared.entries.Confirmed.{Confirmed}
use Rattle.epoch_log.specs.declared.entries.Ended.{Ended}
use Rattle.epoch_log.specs.declared.entries.How.TheVariants.{Decided, Skipped}
use Rattle.epoch_log.specs.declared.entries.Stated.{Stated}
use Rattle.epoch_log.specs.declared.entries.Voted.{Voted}

-- an epoch up to the current one
abbrev pub IsUpToNow : List Ended → ℕ → Type 0
IsUpToNow ended epoch = (1 ≤ epoch) × (epoch ≤ current ended)

-- 1. The epochs end in order, from 1 on without a gap, and so few that the current one can be signed.
pub record EndsInOrder (ended : List Ended) : Type 0 where
  pub in_order : (k : ℕ) (x : Ended) → slice_get ended k ≡ Some x → x.epoch ≡ k + 1
  pub in_range : length ended < 2 ^ 63

-- 2. It votes at most once in an epoch, and in none above the current one.
pub record VotesOnce (ended : List Ended) (voted : List Voted) : Type 0 where
  pub once : AllPairs (λ v w. v.epoch ≢ w.epoch) voted
  pub up_to_now : All (λ v. IsUpToNow ended v.epoch) voted

-- 3. It states at most one thing of an epoch, of none above the current one, and what it states fits its votes.
pub record StatesItsVote (ended : List Ended) (voted : List Voted) (stated : List Stated) : Type 0 where
  pub once : AllPairs (λ s t. s.epoch ≢ t.epoch) stated
  pub up_to_now : All (λ s. IsUpToNow ended s.epoch) stated
  pub fits : All (λ s. FitsVotes voted s.epoch s.value) stated

-- 4. Each vote is right.
abbrev pub VotesRightly : List SeenText → List Ended → List Voted → Type 0
VotesRightly seen ended voted = All (IsRightVote seen ended) voted

-- 5. Each epoch that it ended as decided was rightly so.
abbrev pub DecidesRightly : Council → List SeenText → List Ended → Type 0
DecidesRightly council seen ended =
    (epoch : ℕ) (changes : List Change) (to : List ℕ) → ending ended epoch ≡ Some (Decided changes to) → IsRightDecision council seen ended epoch changes to

-- 6. Each epoch that it ended as skipped was rightly so.
abbrev pub SkipsRightly : Council → List SeenText → List Ended → Type 0
SkipsRightly council seen ended =
    (epoch : ℕ) (statuses : List Status) → ending ended epoch ≡ Some (Skipped statuses) → IsRightSkip council seen epoch statuses

-- 7. Each confirmation is right.
abbrev pub ConfirmsRightly : List Ended → List Confirmed → Type 0
ConfirmsRightly ended confirmed = All (IsRightConfirmation ended) confirmed

-- 8. Its book is sound, has only texts of statements that its entries tell of, and the statement of each entry.
pub record SignsWhatItTells (me : ℕ) (book : RollBook) (voted : List Voted) (stated : List Stated) (confirmed : List Confirmed) : Type 0 where
  pub sound : IsRollBook book
  pub told : All (IsTextOf (ToldByLog me voted stated confirmed)) (texts_of book)
  pub votes : All (λ v. Contains (texts_of book) (text_of (vote_claim me v.epoch (value_of v)))) voted
  pub statuses : All (λ s. Contains (texts_of book) (text_of (status_claim me s.epoch s.value))) stated
  pub confirmations : All (λ c. Contains (texts_of book) (text_of (confirmation_claim me c))) confirmed

-- 9. What it saw is of logs and authorities of the council (`SeesMembers`).

-- The record is that of an honest log with this number.
pub record IsOfHonestLog (council : Council) (me : ℕ) (r : LogRecord) : Type 0 where
  pub ends_in_order : EndsInOrder r.ended
  pub votes_once : VotesOnce r.ended r.voted
  pub states_its_vote : StatesItsVote r.ended r.voted r.stated
  pub votes_rightly : VotesRightly r.seen r.ended r.voted
  pub decides_rightly : DecidesRightly council r.seen r.ended
  pub skips_rightly : SkipsRightly council r.seen r.ended
  pub confirms_rightly : ConfirmsRightly r.ended r.confirmed
  pub signs_what_it_tells : SignsWhatItTells me r.signed r.voted r.stated r.confirmed
  pub sees_members : SeesMembers council r.seen
