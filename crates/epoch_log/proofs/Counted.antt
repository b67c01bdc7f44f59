-- What is counted: more of it, when it is a quorum, and when it excludes each root.
use Rattle.std.proofs.Common.{◌≡◌, ◌≢◌, ℕ, ◌+◌, ◌-◌, ◌<◌, ◌≤◌, ◌⊎◌, inl, inr, List, [], ◌∷◌, length, get_or, refl, sym, ap, ◌∙◌, subst, arith, Bool, true, false, cond, ◌||◌, ◌==◌, eqb, Option, Some, None}
use Rattle.std.specs.Prelude.{All, AllPairs, map, filter, IfSome}
use Rattle.std.specs.List.{AllByRecursion, list_all, list_any}
use Rattle.std.specs.List.Sorted.{IsStrictlyIncreasing}
use Rattle.std.proofs.lemmas.Bool.{and_parts, eq-eqb, ltb-true}
use Rattle.std.proofs.lemmas.List.{length-map, get_or-map}
use Rattle.std.proofs.lemmas.List.Elements.{All-filter, All-map, filter_passes}
use Rattle.std.proofs.lemmas.List.Kept.{AllPairs-from_increasing}
use Rattle.std.proofs.lemmas.List.Sums.{sum_by-cons}
use Rattle.std.proofs.lemmas.Slice.Eq.{bytes_eq-Decides}
use mathlib.Core.List.{map-map}
use Rattle.ar_statement.specs.declared.text.SeenText.{SeenText}
use Rattle.party_keys.specs.Seen.{Saw}
use Rattle.ar_statement.specs.Claims.{log_party}
use Rattle.vote_quorum.specs.Ballots.{has_ballot, is_same, log_count}
use Rattle.ar_base.specs.Adding.{placed}
use Rattle.ar_base.specs.Counting.{one_if}
use Rattle.ar_base.proofs.Adding.{All-placed, AllPairs-placed}
use Rattle.vote_quorum.specs.Numbers.{distinct_count}
use Rattle.vote_quorum.specs.Statuses.{Excludes, Status, is_for, logs_of, report_count}
use Rattle.vote_quorum.specs.declared.value.Value.{Value}
use Rattle.vote_quorum.proofs.Adding.{same_value}
use Rattle.ar_council.proofs.Lists.{All-unmap}
use Rattle.ar_council.specs.Council.{Council}
use Rattle.ar_council.specs.Values.{status_claim, vote_claim}
use Rattle.ar_statement.specs.Ranges.{IsValue}
use Rattle.ar_council.specs.Votes.{SawVotes}
use Rattle.epoch_log.specs.Calls.{with_status, with_vote}
use Rattle.epoch_log.specs.Ending.{excludes_all, falls_short, is_excluded, votes_for}
use Rattle.epoch_log.specs.Right.{AreSeen}
use Rattle.epoch_log.specs.State.{CountedStatus, CountedVote, IsSeenVote, ballots_of, reports_of}

-- ---- values

-- ---- one more ballot

pub votes-counted : (council : Council) (seen : List SeenText) (epoch : ℕ) (votes : List CountedVote) (v : CountedVote) → All (IsSeenVote council seen epoch) votes → IsSeenVote council seen epoch v
    → All (IsSeenVote council seen epoch) (with_vote votes v)
votes-counted council seen epoch votes v all here = by (has_ballot (ballots_of votes) (v.0, v.1))
  where
    by : (b : Bool) → All (IsSeenVote council seen epoch) (cond b votes (placed (λ (x : CountedVote). x.0) v votes))
    by true = all
    by false = All-placed (IsSeenVote council seen epoch) (λ (x : CountedVote). x.0) v votes all here

-- ---- a quorum

-- the counted ballots for a value
abbrev pub fors : List CountedVote → Value → List CountedVote
fors votes value = filter (λ v. is_same v.1 value) votes

-- the logs with a ballot for the value, of ballots with and without signatures
logs-for : (votes : List CountedVote) (value : Value) → map (λ b. b.0) (filter (λ b. is_same b.1 value) (ballots_of votes)) ≡ map (λ (v : CountedVote). v.0) (fors votes value)
logs-for [] value = refl
logs-for (v ∷ votes) value = by (is_same v.1 value) (logs-for votes value)
  where
    by : (b : Bool) → map (λ b. b.0) (filter (λ b. is_same b.1 value) (ballots_of votes)) ≡ map (λ (v : CountedVote). v.0) (fors votes value)
        → map (λ b. b.0) (cond b ((v.0, v.1) ∷ filter (λ b. is_same b.1 value) (ballots_of votes)) (filter (λ b. is_same b.1 value) (ballots_of votes))) ≡ map (λ (v : CountedVote). v.0) (cond b (v ∷ fors votes value) (fors votes value))
    by true rest = ap (λ l. v.0 ∷ l) rest
    by false rest = rest

logs-only : (l : List CountedVote) → map (λ (v : ℕ × Option (List ℕ)). v.0) (map (λ (v : CountedVote). (v.0, v.2)) l) ≡ map (λ (v : CountedVote). v.0) l
logs-only [] = refl
logs-only (v ∷ l) = ap (λ m. v.0 ∷ m) (logs-only l)

-- the votes that are kept of a decision are as many
pub many-votes : (q : ℕ) (votes : List CountedVote) (value : Value) → q ≤ log_count (ballots_of votes) value → q ≤ distinct_count (map (λ (v : ℕ × Option (List ℕ)). v.0) (votes_for votes value))
many-votes q votes value many = subst (λ l. q ≤ distinct_count l) (logs-for votes value ∙ sym (logs-only (fors votes value))) many

-- each ballot for the value that is counted was seen, for this value
saw-fors : (council : Council) (seen : List SeenText) (epoch : ℕ) (votes : List CountedVote) (value : Value) → All (IsSeenVote council seen epoch) votes
    → All (λ v. (v.0 < council.logs) × Saw seen (log_party v.0) (vote_claim v.0 epoch value)) (fors votes value)
saw-fors council seen epoch votes value all =
    let kept : All (IsSeenVote council seen epoch) (fors votes value) = All-filter (λ v. is_same v.1 value) (IsSeenVote council seen epoch) votes all in
    let passes : All (λ v. is_same v.1 value ≡ true) (fors votes value) = filter_passes (λ (v : CountedVote). is_same v.1 value) votes in
    λ k d less.
    let v : CountedVote = get_or (fors votes value) k d in
    let one = kept k d less in
    (one.log, subst (λ w. Saw seen (log_party v.0) (vote_claim v.0 epoch w)) (same_value v.1 value (passes k d less)) one.saw)

pub saw-votes : (council : Council) (seen : List SeenText) (epoch : ℕ) (votes : List CountedVote) (value : Value) → All (IsSeenVote council seen epoch) votes
    → All (λ v. Saw seen (log_party v.0) (vote_claim v.0 epoch value)) (votes_for votes value)
saw-votes council seen epoch votes value all =
    let saw = saw-fors council seen epoch votes value all in
    All-map (λ (v : ℕ × Option (List ℕ)). Saw seen (log_party v.0) (vote_claim v.0 epoch value)) (λ (v : CountedVote). (v.0, v.2)) (fors votes value) (λ k d less. (saw k d less).1)

-- so votes of a quorum were seen
pub quorum-seen : (council : Council) (seen : List SeenText) (epoch : ℕ) (votes : List CountedVote) (value : Value) → All (IsSeenVote council seen epoch) votes
    → council.quorum ≤ log_count (ballots_of votes) value → SawVotes council seen epoch value
quorum-seen council seen epoch votes value all many =
    let saw = saw-fors council seen epoch votes value all in
    record {
      numbers = map (λ (v : CountedVote). v.0) (fors votes value);
      many = subst (λ l. council.quorum ≤ distinct_count l) (logs-for votes value) many;
      below = All-map (λ k. k < council.logs) (λ (v : CountedVote). v.0) (fors votes value) (λ k d less. (saw k d less).0);
      each = All-map (λ log. Saw seen (log_party log) (vote_claim log epoch value)) (λ (v : CountedVote). v.0) (fors votes value) (λ k d less. (saw k d less).1);
    }

-- ---- one more status

logs-plain : (l : List CountedStatus) → logs_of (reports_of l) ≡ map (λ (s : CountedStatus). s.0) l
logs-plain l = map-map (λ (s : Status). s.0) (λ (s : CountedStatus). (s.0, s.1)) l

ordered-from : (l : List CountedStatus) → IsStrictlyIncreasing (logs_of (reports_of l)) → AllPairs (λ s t. s.0 < t.0) l
ordered-from l rises i j d before within =
    let logs : List ℕ = map (λ (s : CountedStatus). s.0) l in
    let increasing : IsStrictlyIncreasing logs = subst IsStrictlyIncreasing (logs-plain l) rises in
    let many = length-map l (λ (s : CountedStatus). s.0) in
    let less : get_or logs i 0 < get_or logs j 0 = AllPairs-from_increasing logs increasing i j 0 before (omega (arith, many, within)) in
    let one = get_or-map (λ (s : CountedStatus). s.0) l i d 0 (omega (arith, before, within)) in
    let other = get_or-map (λ (s : CountedStatus). s.0) l j d 0 within in
    omega (arith, less, one, other)

rises-from : (l : List CountedStatus) → AllPairs (λ s t. s.0 < t.0) l → IsStrictlyIncreasing (logs_of (reports_of l))
rises-from l ordered =
    let many = length-map l (λ (s : CountedStatus). s.0) in
    subst IsStrictlyIncreasing (sym (logs-plain l)) (λ k within.
    let d : CountedStatus = (0, None, None) in
    let next : k + 1 < length l = omega (arith, many, within) in
    let one = get_or-map (λ (s : CountedStatus). s.0) l k d 0 (omega (arith, next)) in
    let other = get_or-map (λ (s : CountedStatus). s.0) l (k + 1) d 0 next in
    omega (arith, one, other, ordered k (k + 1) d (omega arith) next))

apart : (log : ℕ) (l : List CountedStatus) → list_any (λ t. t.0 == log) l ≡ false → AllByRecursion (λ t. t.0 ≢ log) l
apart log [] none = tt
apart log (t ∷ l) none = by (eqb t.0 log) refl (apart log l)
  where
    by : (b : Bool) → eqb t.0 log ≡ b → (list_any (λ t. t.0 == log) l ≡ false → AllByRecursion (λ t. t.0 ≢ log) l) → (t.0 ≢ log) × AllByRecursion (λ t. t.0 ≢ log) l
    by true is rest =
        let any : Bool = list_any (λ (t : CountedStatus). t.0 == log) l in
        let bad : (true || any) ≡ false = subst (λ b. (b || any) ≡ false) is none in absurd cc
    by false is rest =
        let any : Bool = list_any (λ (t : CountedStatus). t.0 == log) l in
        let later : (false || any) ≡ false = subst (λ b. (b || any) ≡ false) is none in
        ((λ same. let yes : eqb t.0 log ≡ true = eq-eqb t.0 log same in absurd cc), rest later)

pub statuses-counted : (council : Council) (seen : List SeenText) (epoch : ℕ) (statuses : List CountedStatus) (s : CountedStatus) → AreSeen council seen epoch (reports_of statuses)
    → s.0 < council.logs → IfSome s.1 IsValue → Saw seen (log_party s.0) (status_claim s.0 epoch s.1)
    → AreSeen council seen epoch (reports_of (with_status statuses s))
statuses-counted council seen epoch statuses s are below value saw = by (list_any (λ t. t.0 == s.0) statuses) refl
  where
    number : CountedStatus → ℕ
    number = λ t. t.0

    by : (b : Bool) → list_any (λ t. t.0 == s.0) statuses ≡ b → AreSeen council seen epoch (reports_of (cond b statuses (placed (λ (t : CountedStatus). t.0) s statuses)))
    by true is = are
    by false is =
        let later : List CountedStatus = placed (λ (t : CountedStatus). t.0) s statuses in
        let ordered : AllPairs (λ (t u : CountedStatus). t.0 < u.0) later = AllPairs-placed (λ (t : CountedStatus). t.0) s statuses (apart s.0 statuses is) (ordered-from statuses are.of_logs.ascending) in
        let belows : All (λ (t : CountedStatus). t.0 < council.logs) statuses =
        All-unmap (λ log. log < council.logs) (λ (t : CountedStatus). t.0) statuses (subst (All (λ log. log < council.logs)) (logs-plain statuses) are.of_logs.below) in
        let values : All (λ (t : CountedStatus). IfSome t.1 IsValue) statuses = All-unmap (λ (t : Status). IfSome t.1 IsValue) (λ (t : CountedStatus). (t.0, t.1)) statuses are.values in
        let saws : All (λ (t : CountedStatus). Saw seen (log_party t.0) (status_claim t.0 epoch t.1)) statuses =
        All-unmap (λ (t : Status). Saw seen (log_party t.0) (status_claim t.0 epoch t.1)) (λ (t : CountedStatus). (t.0, t.1)) statuses are.saw in
        record {
          of_logs = record {
            ascending = rises-from later ordered;
            below = subst (All (λ log. log < council.logs)) (sym (logs-plain later))
                (All-map (λ log. log < council.logs) (λ (t : CountedStatus). t.0) later (All-placed (λ (t : CountedStatus). t.0 < council.logs) (λ (t : CountedStatus). t.0) s statuses belows below));
          };
          values = All-map (λ (t : Status). IfSome t.1 IsValue) (λ (t : CountedStatus). (t.0, t.1)) later
              (All-placed (λ (t : CountedStatus). IfSome t.1 IsValue) (λ (t : CountedStatus). t.0) s statuses values value);
          saw = All-map (λ (t : Status). Saw seen (log_party t.0) (status_claim t.0 epoch t.1)) (λ (t : CountedStatus). (t.0, t.1)) later
              (All-placed (λ (t : CountedStatus). Saw seen (log_party t.0) (status_claim t.0 epoch t.1)) (λ (t : CountedStatus). t.0) s statuses saws saw);
        }

-- ---- statuses that exclude each root

-- a root that a status is for is counted as that status is tested
pub counted-root : (root : List ℕ) (ballot : Option Value) → is_for root ballot ≡ true → (value : Value) × ((ballot ≡ Some value) × (value.root ≡ root))
counted-root root None e = absurd cc
counted-root root (Some value) e = (value, (refl, (bytes_eq-Decides value.root root).0 e))

-- each root falls short where none that is reported is left
excluded-each : (council : Council) (statuses : List Status) (front : List Status) (root : List ℕ) → list_all (λ s. is_excluded council statuses s.1) front ≡ true
    → (report_count root front ≡ 0) ⊎ (falls_short council statuses (report_count root statuses) ≡ true)
excluded-each council statuses [] root e = inl refl
excluded-each council statuses (s ∷ front) root e = by (is_for root s.1) refl (excluded-each council statuses front root)
  where
    two : (is_excluded council statuses s.1 ≡ true) × (list_all (λ s. is_excluded council statuses s.1) front ≡ true)
    two = and_parts (is_excluded council statuses s.1) (list_all (λ s. is_excluded council statuses s.1) front) e

    sum : report_count root (s ∷ front) ≡ one_if (is_for root s.1) + report_count root front
    sum = sum_by-cons (λ (s : Status). one_if (is_for root s.1)) s front

    by : (b : Bool) → is_for root s.1 ≡ b
        → (list_all (λ s. is_excluded council statuses s.1) front ≡ true → (report_count root front ≡ 0) ⊎ (falls_short council statuses (report_count root statuses) ≡ true))
        → (report_count root (s ∷ front) ≡ 0) ⊎ (falls_short council statuses (report_count root statuses) ≡ true)
    by true is rest =
        let c = counted-root root s.1 is in
        let excluded : is_excluded council statuses (Some c.0) ≡ true = subst (λ b. is_excluded council statuses b ≡ true) c.1.0 two.0 in
        inr (subst (λ r. falls_short council statuses (report_count r statuses) ≡ true) c.1.1 excluded)
    by false is rest = elim (rest two.1) [
      | inl none ↦
          let zero : one_if (is_for root s.1) ≡ 0 = ap one_if is in
          inl (omega (arith, sum, zero, none))
      | inr short ↦ inr short
    ]

pub excludes-each : (council : Council) (statuses : List Status) → excludes_all council statuses ≡ true → Excludes council.logs council.quorum statuses
excludes-each council statuses e root =
    let two = and_parts (falls_short council statuses 0) (list_all (λ s. is_excluded council statuses s.1) statuses) e in
    elim (excluded-each council statuses statuses root two.1) [
      | inl none ↦ omega (arith, none, ltb-true (0 + (council.logs - length statuses) + 2) council.quorum two.0)
      | inr short ↦ ltb-true (report_count root statuses + (council.logs - length statuses) + 2) council.quorum short
    ]
