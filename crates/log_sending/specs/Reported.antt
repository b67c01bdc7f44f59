-- The root that the most statuses report.
use Rattle.std.specs.Prelude.{ℕ, ◌==◌, ◌&&◌, ◌||◌, nat_lt, Bool, true, false, List, Option, Some, None, option_and_then, find}
use Rattle.std.specs.List.{list_all}
use Rattle.std.specs.Option.{option_map}
use Rattle.std.specs.Ordering.{nat_cmp, is_le}
use Rattle.std.specs.Cmp.Lexicographic.{slice_cmp}
use Rattle.vote_quorum.specs.Statuses.{Status, report_count}
use Rattle.vote_quorum.specs.declared.value.Value.{Value}

-- whether a root, which is reported so often, comes before another, or is it: it is reported more often, or as often and
-- is not the greater by bytes
abbrev pub comes_before : List ℕ → ℕ → List ℕ → ℕ → Bool
comes_before root count other others = nat_lt others count || ((others == count) && is_le (slice_cmp nat_cmp root other))

-- whether it comes before what a status reports, by all statuses
abbrev pub comes_before_reported : List Status → List ℕ → Option Value → Bool
comes_before_reported all root None = true
comes_before_reported all root (Some value) = comes_before root (report_count root all) value.root (report_count value.root all)

-- whether a status reports a root that comes before each that is reported
abbrev pub reports_first : List Status → Option Value → Bool
reports_first all None = false
reports_first all (Some value) = list_all (λ s. comes_before_reported all value.root s.1) all

-- the root that comes before each that is reported, where one is
abbrev pub first_reported : List Status → Option (List ℕ)
first_reported statuses =
    option_and_then (λ s. option_map (λ value. value.root) s.1) (find (λ s. reports_first statuses s.1) statuses)

-- how often a root is reported; 0 times where there is none
abbrev pub reports_of_root : List Status → Option (List ℕ) → ℕ
reports_of_root all None = 0
reports_of_root all (Some root) = report_count root all

-- the root that is reported most often, the least by bytes among equals, and how often; or none and 0
unfoldable pub most_reported : List Status → Option (List ℕ) × ℕ
most_reported statuses = (first_reported statuses, reports_of_root statuses (first_reported statuses))
