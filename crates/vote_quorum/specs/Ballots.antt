-- Ballots and their counts. A ballot is a log's number with the value that it is for, and a tally is
-- the list of the distinct ballots that were added, in order of adding.
use Rattle.std.specs.Prelude.{◌≡◌, ◌↔◌, ℕ, ◌==◌, nat_le, Bool, ◌&&◌, List, [], ◌∷◌, ◌++◌, map, filter, find, Contains, Option, Result, Ok, OnOk, OnErr}
use Rattle.std.specs.List.{list_any}
use Rattle.std.specs.Option.{option_map}
use Rattle.std.specs.Str.{bytes_eq}
use Rattle.std.specs.FinSet.{len}
use Rattle.std.specs.declared.alloc.AllocError.{AllocError}
use Rattle.ar_base.specs.Adding.{with_one}
use Rattle.vote_quorum.specs.declared.added.Added.{Added}
use Rattle.vote_quorum.specs.declared.added.Added.TheVariants.{New, Again}
use Rattle.vote_quorum.specs.declared.value.Value.{Value}
use Rattle.vote_quorum.specs.Numbers.{Numbers, set_of}

-- a log's number, and the value that it is for
abbrev pub Ballot : Type 0
Ballot = ℕ × Value

-- whether two values are the same: the same root over the same base
abbrev pub is_same : Value → Value → Bool
is_same value other = bytes_eq value.base other.base && bytes_eq value.root other.root

-- the logs that have a ballot for the value
abbrev pub logs_for : List Ballot → Value → Numbers
logs_for ballots value = set_of (map (λ b. b.0) (filter (λ b. is_same b.1 value) ballots))

-- how many logs have a ballot for the value
abbrev pub log_count : List Ballot → Value → ℕ
log_count ballots value = len (logs_for ballots value)

-- whether two ballots are the same
abbrev pub is_same_ballot : Ballot → Ballot → Bool
is_same_ballot b other = (b.0 == other.0) && is_same b.1 other.1

-- whether the ballot is among these
abbrev pub has_ballot : List Ballot → Ballot → Bool
has_ballot ballots ballot = list_any (λ b. is_same_ballot b ballot) ballots

-- the ballots with one more behind them, unless it is among them
abbrev pub with_ballot : List Ballot → Ballot → List Ballot
with_ballot = with_one is_same_ballot

-- the first value, in order of adding, that at least q logs have a ballot for
abbrev pub quorum_of : List Ballot → ℕ → Option Value
quorum_of ballots q = option_map (λ b. b.1) (find (λ b. nat_le q (log_count ballots b.1)) ballots)

-- what an addition of the ballot does: it answers Again exactly where the ballot is there, and after
-- want of memory all is as before
pub record Adds (ballot : Ballot) (answer : Result Added AllocError) (old new : List Ballot) : Type 0 where
  pub again : (answer ≡ Ok Again) ↔ Contains old ballot
  pub appended : answer ≡ Ok New → new ≡ old ++ ballot ∷ []
  pub ballots : OnOk answer (new ≡ with_ballot old ballot)
  pub err : OnErr answer (new ≡ old)
