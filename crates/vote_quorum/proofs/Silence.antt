-- Statuses that exclude a root: no quorum can vote for it.
use Rattle.std.proofs.Common.{◌≡◌, ℕ, ◌+◌, ◌-◌, ◌*◌, ◌<◌, ◌≤◌, List, [], ◌∷◌, length, refl, sym, ap, ◌∙◌, ◌⊎◌, ⊎_elim, arith, Bool, true, false, cond, eqb, not, ◌&&◌, ◌||◌, Option, None, ◌↔◌}
use Rattle.std.specs.Prelude.{All, IsTrue}
use Rattle.std.specs.List.{AllByRecursion, filter}
use Rattle.std.proofs.lemmas.Bool.{eqb-true, cases_lt}
use Rattle.std.proofs.lemmas.Bool.Decides.{Decides-eqb}
use Rattle.std.proofs.lemmas.List.{length-map}
use Rattle.std.proofs.lemmas.List.Elements.{All-contains, recursion_from_All}
use Rattle.std.proofs.lemmas.List.Kept.{AllPairs-from_increasing}
use Rattle.std.proofs.lemmas.List.Sums.{length-filter, sum_by-cons}
use Rattle.std.proofs.lemmas.Map.Made.{IsDistinct-from_AllPairs}
use Rattle.vote_quorum.specs.Numbers.{distinct_count}
use Rattle.ar_base.specs.Counting.{one_if}
use Rattle.vote_quorum.specs.Counted.{count_below, AtLeast}
use Rattle.vote_quorum.specs.Statuses.{Status, logs_of, AreStatuses, is_for, report_count, Excludes, IsMostReported}
use Rattle.vote_quorum.proofs.Counting.{among, distinct_count-le, Contains-from_among}
use Rattle.vote_quorum.proofs.Below.{count_below-both, distinct_count-below}
use Rattle.vote_quorum.proofs.Shared.{distinct_count-distinct}
use Rattle.vote_quorum.proofs.Counts.{count_below-le, count_below-wider, count_below-either, count_below-among, at_least_from_count}
use Rattle.vote_quorum.proofs.Reported.{none_more, one_as_often}

-- each log that has a status is counted once
pub distinct_logs : (n : ℕ) (ss : List Status) → AreStatuses n ss → distinct_count (logs_of ss) ≡ length ss
distinct_logs n ss are =
    distinct_count-distinct (logs_of ss)
    (IsDistinct-from_AllPairs Decides-eqb (logs_of ss) (λ i j d before within same. absurd (
    let rises = AllPairs-from_increasing (logs_of ss) are.ascending i j d before within in omega (arith, rises, same))))
    ∙ length-map ss (λ (s : Status). s.0)

pub all_counted : (n : ℕ) (ss : List Status) → AreStatuses n ss → length ss ≡ count_below n (λ k. among k (logs_of ss))
all_counted n ss are = sym (distinct_logs n ss are) ∙ distinct_count-below n (logs_of ss) (recursion_from_All (λ k. k < n) (logs_of ss) are.below)

-- no more logs have a status than there are
pub few_statuses : (n : ℕ) (ss : List Status) → AreStatuses n ss → length ss ≤ n
few_statuses n ss are = omega (arith, all_counted n ss are, count_below-le n (λ k. among k (logs_of ss)))

-- the logs that report the root
abbrev pub reporting : List ℕ → List Status → List ℕ
reporting root ss = logs_of (filter (λ (s : Status). is_for root s.1) ss)

-- no more logs report it than statuses do
pub few_reporting : (root : List ℕ) (ss : List Status) → distinct_count (reporting root ss) ≤ report_count root ss
few_reporting root ss =
    omega (arith, distinct_count-le (reporting root ss), length-map (filter (λ (s : Status). is_for root s.1) ss) (λ (s : Status). s.0), length-filter (λ (s : Status). is_for root s.1) ss)

pub reports_counted : (n : ℕ) (root : List ℕ) (ss : List Status) → count_below n (λ k. among k (reporting root ss)) ≤ report_count root ss
reports_counted n root ss =
    omega (arith, count_below-among n (reporting root ss), length-map (filter (λ (s : Status). is_for root s.1) ss) (λ (s : Status). s.0), length-filter (λ (s : Status). is_for root s.1) ss)

-- Those that back a root lie, report it or have no status: so they and those with a status are together at
-- most those that lie, those that report it, and all.
pub few_back : (n : ℕ) (p d x s : ℕ → Bool) → ((k : ℕ) → k < n → p k ≡ true → (d k || (x k || not (s k))) ≡ true) → count_below n p + count_below n s ≤ (count_below n d + count_below n x) + n
few_back n p d x s each =
    omega (arith, count_below-both n p s, count_below-either n d x, count_below-wider n (λ k. p k && s k) (λ k. d k || x k) (λ k h both. one (p k) (s k) (d k) (x k) both (each k h))) where
      one : (p s d x : Bool) → (p && s) ≡ true → (p ≡ true → (d || (x || not s)) ≡ true) → (d || x) ≡ true
      one true true true x both each = refl
      one true true false true both each = refl
      one true true false false both each = each refl
      one true false d x both each = absurd (cc)
      one false s d x both each = absurd (cc)

-- a log whose statuses all report the root reports it, where it has one
reported : (root : List ℕ) (k : ℕ) (ss : List Status) → AllByRecursion (λ s. s.0 ≡ k → IsTrue (is_for root s.1)) ss → (among k (reporting root ss) || not (among k (logs_of ss))) ≡ true
reported root k [] all = refl
reported root k (s ∷ ss) all =
    let rest : (among k (reporting root ss) || not (among k (logs_of ss))) ≡ true = reported root k ss all.1 in
    elim (eqb s.0 k) as (λ b. eqb s.0 k ≡ b → (among k (logs_of (cond (is_for root s.1) (s ∷ filter (λ (s : Status). is_for root s.1) ss) (filter (λ (s : Status). is_for root s.1) ss))) || not (b || among k (logs_of ss))) ≡ true) [
      | true ↦ λ e.
          let is : is_for root s.1 ≡ true = all.0 (eqb-true s.0 k e) in
          ap (λ b. among k (logs_of (cond b (s ∷ filter (λ (s : Status). is_for root s.1) ss) (filter (λ (s : Status). is_for root s.1) ss))) || not (true || among k (logs_of ss))) is
          ∙ ap (λ b. (b || among k (reporting root ss)) || false) e
      | false ↦ λ e.
          elim (is_for root s.1) as (λ b. (among k (logs_of (cond b (s ∷ filter (λ (s : Status). is_for root s.1) ss) (filter (λ (s : Status). is_for root s.1) ss))) || not (among k (logs_of ss))) ≡ true) [
            | true ↦ ap (λ b. (b || among k (reporting root ss)) || not (among k (logs_of ss))) e ∙ rest
            | false ↦ rest
          ]
    ] refl

-- Where the statuses exclude each root and at most two logs lie, no quorum votes for one: who votes for it
-- lies, or has no status that does not report it.
pub no_quorum : (n q : ℕ) (ss : List Status) (root : List ℕ) (lies : ℕ → Bool) (Votes : ℕ → Type 0) → AreStatuses n ss → Excludes n q ss → count_below n lies ≤ 2
    → ((log : ℕ) → log < n → Votes log → IsTrue (lies log) ⊎ All (λ s. s.0 ≡ log → IsTrue (is_for root s.1)) ss) → AtLeast q n Votes → ⊥
no_quorum n q ss root lies Votes are excludes few each some =
    let counted : distinct_count some.numbers ≡ count_below n (λ k. among k some.numbers) = distinct_count-below n some.numbers (recursion_from_All (λ k. k < n) some.numbers some.below) in
    let back : count_below n (λ k. among k some.numbers) + count_below n (λ k. among k (logs_of ss)) ≤ (count_below n lies + count_below n (λ k. among k (reporting root ss))) + n =
    few_back n (λ k. among k some.numbers) lies (λ k. among k (reporting root ss)) (λ k. among k (logs_of ss)) (λ k h there.
    one (lies k) k (each k h (All-contains Votes some.numbers k some.each (Contains-from_among some.numbers k there)))) in
    omega (arith, counted, back, some.many, excludes root, few, all_counted n ss are, few_statuses n ss are, reports_counted n root ss) where
      one : (b : Bool) (k : ℕ) → IsTrue b ⊎ All (λ s. s.0 ≡ k → IsTrue (is_for root s.1)) ss → (b || (among k (reporting root ss) || not (among k (logs_of ss)))) ≡ true
      one true k either = refl
      one false k either =
          ⊎_elim (λ (lies : IsTrue false). absurd (cc))
          (λ (all : All (λ s. s.0 ≡ k → IsTrue (is_for root s.1)) ss). reported root k ss (recursion_from_All (λ s. s.0 ≡ k → IsTrue (is_for root s.1)) ss all))
          either

-- by a test
pub fewer_votes : (n q : ℕ) (ss : List Status) (root : List ℕ) (lies votes : ℕ → Bool) → AreStatuses n ss → Excludes n q ss → count_below n lies ≤ 2
    → ((log : ℕ) → log < n → IsTrue (votes log) → IsTrue (lies log) ⊎ All (λ s. s.0 ≡ log → IsTrue (is_for root s.1)) ss) → count_below n votes < q
fewer_votes n q ss root lies votes are excludes few each =
    ⊎_elim (λ (fewer : count_below n votes < q). fewer)
    (λ (many : q ≤ count_below n votes). absurd (no_quorum n q ss root lies (λ k. IsTrue (votes k)) are excludes few each (at_least_from_count q n votes many)))
    (cases_lt (count_below n votes) q)

-- none reports a ballot
pub silent_quorum : (n q : ℕ) (ss : List Status) → n + 2 < 2 * q → AreStatuses n ss → q ≤ length ss → All (λ s. s.1 ≡ None) ss → Excludes n q ss
silent_quorum n q ss wide are many silent root = omega (arith, wide, many, none ss (recursion_from_All (λ (s : Status). s.1 ≡ None) ss silent), few_statuses n ss are) where
  none : (ss : List Status) → AllByRecursion (λ s. s.1 ≡ None) ss → report_count root ss ≡ 0
  none [] all = refl
  none (s ∷ ss) all =
      sum_by-cons (λ (s : Status). one_if (is_for root s.1)) s ss
      ∙ ap (λ b. one_if (is_for root b) + report_count root ss) all.0
      ∙ omega (arith, none ss all.1)

-- in sums
pub excludes_by_sums : (n q : ℕ) (ss : List Status) → AreStatuses n ss → Excludes n q ss ↔ ((root : List ℕ) → report_count root ss + n + 2 < q + length ss)
excludes_by_sums n q ss are =
    (λ excludes root. omega (arith, excludes root, few_statuses n ss are), λ sums root. omega (arith, sums root, few_statuses n ss are))

-- a test of the root that is reported most often tests all
pub excludes_by_most : (n q : ℕ) (ss : List Status) (most : Option (List ℕ)) (count : ℕ) → IsMostReported ss most count → Excludes n q ss ↔ (count + (n - length ss) + 2 < q)
excludes_by_most n q ss most count first = (
  λ excludes. let as_often = one_as_often ss most count first in omega (arith, excludes as_often.0, as_often.1),
  λ few root. omega (arith, few, none_more ss most count first root),
)
