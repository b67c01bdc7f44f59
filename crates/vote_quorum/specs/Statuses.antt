-- What the logs state of an epoch in which no root got a quorum, and when it shows that none can get one.
use Rattle.std.specs.Prelude.{◌≡◌, ℕ, ◌+◌, ◌-◌, ◌<◌, ◌≤◌, Bool, false, List, map, length, Option, Some, None, All, IsTrue}
use Rattle.std.specs.List.{count_by}
use Rattle.std.specs.List.Sorted.{IsStrictlyIncreasing}
use Rattle.std.specs.Ordering.{nat_cmp, is_le}
use Rattle.std.specs.Cmp.Lexicographic.{slice_cmp}
use Rattle.std.specs.Str.{bytes_eq}
use Rattle.vote_quorum.specs.declared.value.Value.{Value}

-- a log's number, and the ballot that it reports, where it has cast one
abbrev pub Status : Type 0
Status = ℕ × Option Value

-- the logs that state something
abbrev pub logs_of : List Status → List ℕ
logs_of statuses = map (λ s. s.0) statuses

-- each log states one thing, and the logs ascend; there are n logs, numbered from 0
pub record AreStatuses (n : ℕ) (statuses : List Status) : Type 0 where
  pub ascending : IsStrictlyIncreasing (logs_of statuses)
  pub below : All (λ log. log < n) (logs_of statuses)

-- whether a ballot is for the root
abbrev pub is_for : List ℕ → Option Value → Bool
is_for root None = false
is_for root (Some ballot) = bytes_eq ballot.root root

-- how many statuses report a ballot for the root
abbrev pub report_count : List ℕ → List Status → ℕ
report_count root statuses = count_by (λ s. is_for root s.1) statuses

-- The statuses exclude each root, reported or not: the logs that report it, those that state nothing and
-- two that may lie are together no quorum of q.
abbrev pub Excludes : ℕ → ℕ → List Status → Type 0
Excludes n q statuses = (root : List ℕ) → report_count root statuses + (n - length statuses) + 2 < q

-- A root comes before another, or is it: it is reported more often, or as often and is not the greater by
-- bytes. Each stands with the number of its reports.
abbrev pub ComesBefore : List ℕ → ℕ → List ℕ → ℕ → Type 0
ComesBefore root count other others = (others ≤ count) × (others ≡ count → IsTrue (is_le (slice_cmp nat_cmp root other)))

-- a root is reported so many times, and comes before each other
pub record IsFirst (statuses : List Status) (root : List ℕ) (count : ℕ) : Type 0 where
  pub counted : report_count root statuses ≡ count
  pub reported : 0 < count
  pub leads : (other : List ℕ) → ComesBefore root count other (report_count other statuses)

-- the root that is reported most often, the least by bytes among equals, and how often that is; or none and
-- 0 where none is reported
abbrev pub IsMostReported : List Status → Option (List ℕ) → ℕ → Type 0
IsMostReported statuses None count = (count ≡ 0) × ((root : List ℕ) → report_count root statuses ≡ 0)
IsMostReported statuses (Some root) count = IsFirst statuses root count
