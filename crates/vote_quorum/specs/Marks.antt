-- How a tally is kept: each value once, with the number of its logs, and for each ballot a mark, which
-- is its log and the place of its value.
use Rattle.std.specs.Prelude.{◌≡◌, ◌≢◌, ℕ, ◌<◌, Bool, List, [], map, find, length, All, AllPairs, slice_index_or}
use Rattle.std.specs.Option.{option_map}
use Rattle.vote_quorum.specs.declared.value.Value.{Value}
use Rattle.vote_quorum.specs.declared.marks.Candidate.{Candidate}
use Rattle.vote_quorum.specs.declared.marks.Mark.{Mark}
use Rattle.vote_quorum.specs.Ballots.{Ballot, log_count}

-- the values that are kept
abbrev pub values_of : List Candidate → List Value
values_of candidates = map (λ c. c.value) candidates

-- the value at a place
abbrev pub value_at : List Value → ℕ → Value
value_at values place = slice_index_or values place (record { base = []; root = [] })

-- the ballots that the marks stand for
abbrev pub ballots_of : List Value → List Mark → List Ballot
ballots_of values marks = map (λ m. (m.log, value_at values m.candidate)) marks

-- each mark has a place; no value is kept twice; each has its number of logs; and the first value that
-- passes a test is the first one that a ballot is for
pub record IsTally (candidates : List Candidate) (marks : List Mark) : Type 0 where
  pub placed : All (λ m. m.candidate < length candidates) marks
  pub apart : AllPairs (λ v w. v ≢ w) (values_of candidates)
  pub counted : All (λ c. c.logs ≡ log_count (ballots_of (values_of candidates) marks) c.value) candidates
  pub in_order : (test : Value → Bool) → find test (values_of candidates) ≡ option_map (λ b. b.1) (find (λ b. test b.1) (ballots_of (values_of candidates) marks))
