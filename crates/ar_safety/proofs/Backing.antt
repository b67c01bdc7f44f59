-- A root is backed exactly where those that back it are counted to a quorum.
use Rattle.std.proofs.Common.{◌≡◌, ℕ, zero, suc, ◌+◌, ◌<◌, ◌≤◌, ◌↔◌, inl, inr, List, [], ◌∷◌, length, get_or, refl, sym, ap, ◌∙◌, arith, Bool, true, false, not, ◌&&◌, ◌||◌, eqb, eq-eqb}
use Rattle.std.specs.Prelude.{Contains, IsTrue}
use Rattle.std.specs.List.{list_any}
use Rattle.std.specs.Str.{bytes_eq}
use Rattle.std.proofs.lemmas.Bool.{and_from, and_parts, eqb-true}
use Rattle.std.proofs.lemmas.Slice.Eq.{bytes_eq-Decides}
use Rattle.ar_base.specs.Counting.{one_if}
use Rattle.ar_statement.specs.Claims.{log_party}
use Rattle.vote_quorum.specs.Counted.{AtLeast, count_below}
use Rattle.vote_quorum.specs.declared.value.Value.{Value}
use Rattle.vote_quorum.proofs.Counts.{at_least_from_count, count_below-either, count_from_at_least}
use Rattle.epoch_log.specs.Told.{HasVoted}
use Rattle.epoch_log.specs.declared.entries.Voted.{Voted}
use Rattle.ar_safety.specs.Agreed.{Backed, Backs, backing, has_vote}
use Rattle.ar_safety.specs.Records.{Records, is_dishonest}
use Rattle.ar_council.proofs.Lists as lists

-- ---- votes, as a test

abbrev is_for : ℕ → List ℕ → Voted → Bool
is_for epoch to v = eqb v.epoch epoch && bytes_eq v.root to

any-there : (p : Voted → Bool) (vs : List Voted) (v : Voted) → Contains vs v → p v ≡ true → list_any p vs ≡ true
any-there p [] v there is = absurd (omega (arith, there.1))
any-there p (w ∷ vs) v there is = by there.0 there.1 there.2 (p w) refl (λ k less same. any-there p vs v (k, less, same) is)
  where
    by : (k : ℕ) → k < length (w ∷ vs) → get_or (w ∷ vs) k v ≡ v → (b : Bool) → p w ≡ b
        → ((m : ℕ) → m < length vs → get_or vs m v ≡ v → list_any p vs ≡ true) → (b || list_any p vs) ≡ true
    by k less same true gives rest = refl
    by zero less same false gives rest = let wrong : false ≡ true = sym gives ∙ ap p same ∙ is in absurd cc
    by (suc k) less same false gives rest = rest k (omega (arith, less)) same

voted-test : (vs : List Voted) (epoch : ℕ) (from to : List ℕ) → HasVoted vs epoch (record { base = from; root = to }) → has_vote vs epoch to ≡ true
voted-test vs epoch from to has =
    any-there (is_for epoch to) vs has.0 has.1.0
    (and_from (eqb has.0.epoch epoch) (bytes_eq has.0.root to) (eq-eqb has.0.epoch epoch has.1.1) ((bytes_eq-Decides has.0.root to).1 (ap (λ (x : Value). x.root) has.1.2)))

abbrev valued : List ℕ → List ℕ → Value
valued from to = record { base = from; root = to }

test-voted : (vs : List Voted) (epoch : ℕ) (to : List ℕ) → has_vote vs epoch to ≡ true → (from : List ℕ) × HasVoted vs epoch (record { base = from; root = to })
test-voted vs epoch to is =
    let found = lists.found (is_for epoch to) vs is in
    let v : Voted = found.0 in
    let two = and_parts (eqb v.epoch epoch) (bytes_eq v.root to) found.1.1 in
    let root : v.root ≡ to = (bytes_eq-Decides v.root to).0 two.1 in
    (v.base, (v, (found.1.0, eqb-true v.epoch epoch two.0, ap (valued v.base) root)))

-- ---- counts

-- what is counted apart is counted together
together : (n : ℕ) (d v : ℕ → Bool) → count_below n (λ k. not (d k) && v k) + count_below n d ≤ count_below n (λ k. d k || (not (d k) && v k))
together zero d v = omega arith
together (suc n) d v = by (d n) (v n) (together n d v)
  where
    by : (a b : Bool) → count_below n (λ k. not (d k) && v k) + count_below n d ≤ count_below n (λ k. d k || (not (d k) && v k))
        → (one_if (not a && b) + count_below n (λ k. not (d k) && v k)) + (one_if a + count_below n d)
        ≤ one_if (a || (not a && b)) + count_below n (λ k. d k || (not (d k) && v k))
    by true b rest = omega (arith, rest)
    by false true rest = omega (arith, rest)
    by false false rest = omega (arith, rest)

-- ---- both directions

abbrev Test : Records → ℕ → List ℕ → ℕ → Bool
Test r epoch to log = is_dishonest r (log_party log) || (not (is_dishonest r (log_party log)) && has_vote (r.logs log).voted epoch to)

backs-test : (r : Records) (epoch : ℕ) (to : List ℕ) (log : ℕ) → Backs r epoch to log → Test r epoch to log ≡ true
backs-test r epoch to log (inl lies) = ap (λ b. b || (not b && has_vote (r.logs log).voted epoch to)) lies
backs-test r epoch to log (inr good) =
    ap (λ b. b || (not b && has_vote (r.logs log).voted epoch to)) good.0.honest ∙ voted-test (r.logs log).voted epoch good.1.0 to good.1.1

test-backs : (r : Records) (epoch : ℕ) (to : List ℕ) (log : ℕ) → log < r.council.logs → Test r epoch to log ≡ true → Backs r epoch to log
test-backs r epoch to log known is = by (is_dishonest r (log_party log)) refl is
  where
    by : (b : Bool) → is_dishonest r (log_party log) ≡ b → (b || (not b && has_vote (r.logs log).voted epoch to)) ≡ true → Backs r epoch to log
    by true lies holds = inl lies
    by false good holds = inr (record { known = known; honest = good }, test-voted (r.logs log).voted epoch to holds)

pub counted-backed : (r : Records) (epoch : ℕ) (to : List ℕ) → Backed r epoch to ↔ (r.council.quorum ≤ backing r epoch to)
counted-backed r epoch to = (
  (λ backed.
      let tested : AtLeast r.council.quorum r.council.logs (λ log. IsTrue (Test r epoch to log)) = record {
        numbers = backed.numbers;
        many = backed.many;
        below = backed.below;
        each = λ k d less. backs-test r epoch to (get_or backed.numbers k d) (backed.each k d less);
      } in
      omega (
        arith,
        count_from_at_least r.council.quorum r.council.logs (Test r epoch to) tested,
        count_below-either r.council.logs (λ log. is_dishonest r (log_party log)) (λ log. not (is_dishonest r (log_party log)) && has_vote (r.logs log).voted epoch to),
      )),
  (λ many.
      let all = together r.council.logs (λ log. is_dishonest r (log_party log)) (λ log. has_vote (r.logs log).voted epoch to) in
      let tested : AtLeast r.council.quorum r.council.logs (λ log. IsTrue (Test r epoch to log)) =
      at_least_from_count r.council.quorum r.council.logs (Test r epoch to) (omega (arith, many, all)) in
      record {
        numbers = tested.numbers;
        many = tested.many;
        below = tested.below;
        each = λ k d less. test-backs r epoch to (get_or tested.numbers k d) (tested.below k d less) (tested.each k d less);
      }),
)
