-- Of two quorums an honest log is in both; so one root is backed in an epoch, and none where the epoch was skipped.
use Rattle.std.proofs.Common.{◌≡◌, ℕ, zero, suc, ◌+◌, ◌<◌, ◌≤◌, ◌^◌, ◌⊎◌, inl, inr, List, [], ◌∷◌, length, get_or, refl, sym, ap, ◌∙◌, subst, arith, Bool, true, false, not, ◌&&◌, ◌||◌, eqb, Some}
use Rattle.std.specs.Prelude.{All, IsTrue, map}
use Rattle.std.specs.List.{list_any}
use Rattle.std.proofs.lemmas.Bool.{and_parts, eq-eqb, eqb-true, or_right, not-true}
use Rattle.std.proofs.lemmas.List.{length-map}
use Rattle.std.proofs.lemmas.List.Elements.{All-contains, recursion_from_All}
use Rattle.std.proofs.lemmas.Slice.Eq.{bytes_eq-Decides}
use Rattle.ar_base.specs.Bytes.{IsDigest}
use Rattle.ar_base.specs.Counting.{one_if}
use Rattle.ar_statement.specs.declared.party.Role.{Role}
use Rattle.ar_statement.specs.declared.party.Role.TheVariants.{LogServer}
use Rattle.ar_statement.specs.declared.party.Party.{Party}
use Rattle.ar_statement.specs.declared.text.SeenText.{SeenText}
use Rattle.ar_cert.specs.Changes.{Change}
use Rattle.ar_statement.specs.Claims.{is_party, log_party, party, role_number, text_of}
use Rattle.ar_statement.specs.Ranges.{IsValid, IsValue}
use Rattle.party_keys.specs.Seen.{Saw}
use Rattle.vote_quorum.specs.Counted.{AtLeast, count_below}
use Rattle.vote_quorum.specs.Statuses.{Status, is_for}
use Rattle.vote_quorum.specs.declared.value.Value.{Value}
use Rattle.vote_quorum.proofs.Counting.{among, Contains-from_among}
use Rattle.vote_quorum.proofs.Counts.{at_least_wider, count_below-among, count_below-either, count_below-wider}
use Rattle.vote_quorum.proofs.Below.{count_below-both, distinct_count-below}
use Rattle.vote_quorum.proofs.Silence.{no_quorum}
use Rattle.domain_table.specs.Tree.{root_of}
use Rattle.domain_table.proofs.Trees.{root-digest}
use Rattle.epoch_log.specs.Honest.{IsOfHonestLog}
use Rattle.epoch_log.specs.Record.{base_of, ending}
use Rattle.ar_council.specs.Values.{status_claim, vote_claim}
use Rattle.ar_council.specs.Votes.{SawVotes}
use Rattle.epoch_log.specs.Right.{IsRightDecision, IsRightSkip}
use Rattle.epoch_log.specs.Told.{HasStated, HasVoted}
use Rattle.epoch_log.specs.declared.entries.How.TheVariants.{Decided, Skipped}
use Rattle.epoch_log.proofs.Endings.{ending-within}
use Rattle.epoch_log.proofs.Read.{one-vote, status-is-vote, statuses-signed, votes-signed}
use Rattle.epoch_log.proofs.Texts.{valid-status, valid-vote}
use Rattle.ar_safety.specs.Agreed.{Backed, Backs}
use Rattle.ar_safety.specs.Records.{AreSigned, IsHonestLog, Records, is_dishonest}
use Rattle.ar_safety.specs.Theorem.{AreHonest, Few, NoForgery}

-- ---- an honest log in both quorums

-- where a test passes below n, a number passes
pub some_below : (n : ℕ) (p : ℕ → Bool) → 0 < count_below n p → (k : ℕ) × ((k < n) × (p k ≡ true))
some_below zero p more = absurd (omega (arith, more))
some_below (suc n) p more = by (p n) refl (some_below n p)
  where
    by : (b : Bool) → p n ≡ b → (0 < count_below n p → (k : ℕ) × ((k < n) × (p k ≡ true))) → (k : ℕ) × ((k < suc n) × (p k ≡ true))
    by true is rest = (n, (omega arith, is))
    by false is rest =
        let none : one_if (p n) ≡ 0 = ap one_if is in
        let r = rest (omega (arith, more, none)) in
        (r.0, (omega (arith, r.1.0), r.1.1))

numbers : List Party → List ℕ
numbers parties = map (λ p. p.number) parties

-- a dishonest party's number is among those of the dishonest parties
dishonest-among : (role : Role) (parties : List Party) (k : ℕ) → list_any (is_party (party role k)) parties ≡ true → among k (numbers parties) ≡ true
unfolding numbers
dishonest-among role [] k e = absurd cc
dishonest-among role (p ∷ parties) k e = by (is_party (party role k) p) refl (dishonest-among role parties k)
  where
    by : (b : Bool) → is_party (party role k) p ≡ b → (list_any (is_party (party role k)) parties ≡ true → among k (map (λ (q : Party). q.number) parties) ≡ true)
        → among k (p.number ∷ map (λ (q : Party). q.number) parties) ≡ true
    by true is rest =
        let two = and_parts (eqb (role_number role) (role_number p.role)) (eqb k p.number) is in
        let same : eqb p.number k ≡ true = eq-eqb p.number k (sym (eqb-true k p.number two.1)) in
        ap (λ b. b || among k (map (λ (q : Party). q.number) parties)) same
    by false is rest =
        let later : (false || list_any (is_party (party role k)) parties) ≡ true = subst (λ b. (b || list_any (is_party (party role k)) parties) ≡ true) is e in
        or_right (eqb p.number k) (among k (map (λ (q : Party). q.number) parties)) (rest later)

-- at most two parties of a role are dishonest
pub few-dishonest : (r : Records) → Few r → (role : Role) (n : ℕ) → count_below n (λ k. is_dishonest r (party role k)) ≤ 2
unfolding numbers
few-dishonest r few role n =
    let wider = count_below-wider n (λ k. is_dishonest r (party role k)) (λ k. among k (numbers r.dishonest)) (λ k less is. dishonest-among role r.dishonest k is) in
    let most = count_below-among n (numbers r.dishonest) in
    let many = length-map r.dishonest (λ (p : Party). p.number) in
    omega (arith, wider, most, many, few)

pub split : (d b : Bool) → b ≡ true → (d || (b && not d)) ≡ true
split true b e = refl
split false true e = refl
split false false e = absurd cc

counted : (q n : ℕ) (P : ℕ → Type 0) (a : AtLeast q n P) → q ≤ count_below n (λ k. among k a.numbers)
counted q n P a = omega (arith, a.many, distinct_count-below n a.numbers (recursion_from_All (λ k. k < n) a.numbers a.below))

pub has : (q n : ℕ) (P : ℕ → Type 0) (a : AtLeast q n P) (k : ℕ) → among k a.numbers ≡ true → P k
has q n P a k is = All-contains P a.numbers k a.each (Contains-from_among a.numbers k is)

-- of two quorums an honest log is in both
pub witness : (r : Records) → AreHonest r → Few r → (P Q : ℕ → Type 0) → AtLeast r.council.quorum r.council.logs P → AtLeast r.council.quorum r.council.logs Q
    → (k : ℕ) × (IsHonestLog r k × P k × Q k)
witness r honest few P Q a b =
    let n : ℕ = r.council.logs in
    let p : ℕ → Bool = λ k. among k a.numbers in
    let s : ℕ → Bool = λ k. among k b.numbers in
    let d : ℕ → Bool = λ k. is_dishonest r (log_party k) in
    let good : ℕ → Bool = λ k. (p k && s k) && not (d k) in
    let in-both = count_below-both n p s in
    let wider = count_below-wider n (λ k. p k && s k) (λ k. d k || good k) (λ k less is. split (d k) (p k && s k) is) in
    let either = count_below-either n d good in
    let some = some_below n good (omega (arith, counted r.council.quorum n P a, counted r.council.quorum n Q b, in-both, wider, either, few-dishonest r few LogServer n, honest.quorums.wide)) in
    let k : ℕ = some.0 in
    let parts = and_parts (p k && s k) (not (d k)) some.1.1 in
    let two = and_parts (p k) (s k) parts.0 in
    (k, (record { known = some.1.0; honest = not-true (d k) parts.1 }, has r.council.quorum n P a k two.0, has r.council.quorum n Q b k two.1))

-- what an honest log backs it voted for
pub backs-voted : (r : Records) (epoch : ℕ) (to : List ℕ) (k : ℕ) → IsHonestLog r k → Backs r epoch to k → (from : List ℕ) × HasVoted (r.logs k).voted epoch (record { base = from; root = to })
backs-voted r epoch to k honest (inl bad) = let good = honest.honest in absurd cc
backs-voted r epoch to k honest (inr voted) = voted.1

-- one root alone is backed in an epoch
pub one-root : (r : Records) → AreHonest r → Few r → (epoch : ℕ) (one other : List ℕ) → Backed r epoch one → Backed r epoch other → one ≡ other
one-root r honest few epoch one other a b =
    let w = witness r honest few (Backs r epoch one) (Backs r epoch other) a b in
    let k : ℕ = w.0 in
    let first = backs-voted r epoch one k w.1.0 w.1.1 in
    let second = backs-voted r epoch other k w.1.0 w.1.2 in
    ap (λ (v : Value). v.root) (one-vote r.council k (r.logs k) epoch (record { base = first.0; root = one }) (record { base = second.0; root = other }) (honest.logs k w.1.0) first.1 second.1)

-- ---- votes that were seen

small : (r : Records) → AreHonest r → (log : ℕ) → log < r.council.logs → log < 2 ^ 16
small r honest log less = omega (arith, less, honest.quorums.few)

-- votes of a quorum for a value that were seen back its root
pub votes-back : (r : Records) → AreHonest r → (seen : List SeenText) → AreSigned r seen → (n : ℕ) → n < 2 ^ 63 → (value : Value) → IsValue value → SawVotes r.council seen (n + 1) value → Backed r (n + 1) value.root
votes-back r honest seen signed n less value are saw =
    at_least_wider r.council.quorum r.council.logs (λ log. Saw seen (log_party log) (vote_claim log (n + 1) value)) (Backs r (n + 1) value.root)
    (λ log below one. by log below one (is_dishonest r (log_party log)) refl) saw
  where
    by : (log : ℕ) → log < r.council.logs → Saw seen (log_party log) (vote_claim log (n + 1) value) → (b : Bool) → is_dishonest r (log_party log) ≡ b → Backs r (n + 1) value.root log
    by log below one true bad = inl bad
    by log below one false good =
        let is : IsHonestLog r log = record { known = below; honest = good } in
        let valid = valid-vote log n value (small r honest log below) less are in
        let there = signed (log_party log) (text_of (vote_claim log (n + 1) value)) is one in
        inr (is, (value.base, (votes-signed r.council log (r.logs log) (n + 1) value (honest.logs log is) valid).0 there))

before : (epoch : ℕ) → 1 ≤ epoch → (n : ℕ) × (epoch ≡ n + 1)
before zero least = absurd (omega (arith, least))
before (suc n) least = (n, omega arith)

-- a decided epoch's root is backed
pub decided-backed : (r : Records) → AreHonest r → NoForgery r → (j : ℕ) → IsHonestLog r j → (epoch : ℕ) (changes : List Change) (to : List ℕ)
    → ending (r.logs j).ended epoch ≡ Some (Decided changes to) → Backed r epoch to
decided-backed r honest forged j is epoch changes to ended =
    let h : IsOfHonestLog r.council j (r.logs j) = honest.logs j is in
    let right : IsRightDecision r.council (r.logs j).seen (r.logs j).ended epoch changes to = h.decides_rightly epoch changes to ended in
    let within = ending-within (r.logs j).ended h.ends_in_order epoch (Decided changes to) ended in
    let value : Value = record { base = root_of (base_of (r.logs j).ended epoch); root = to } in
    let are : IsValue value = record { base = root-digest (base_of (r.logs j).ended epoch); root = subst IsDigest right.leads.reaches.is_root (root-digest right.leads.reaches.table) } in
    let n = before epoch within.0 in
    subst (λ e. Backed r e to) (sym n.1)
    (votes-back r honest (r.logs j).seen (forged.logs j is) n.0 (omega (arith, n.1, within.1, h.ends_in_order.in_range)) value are (subst (λ e. SawVotes r.council (r.logs j).seen e value) n.1 right.votes))

-- where a root is backed, no honest log skipped the epoch
pub backed-not-skipped : (r : Records) → AreHonest r → Few r → NoForgery r → (j : ℕ) → IsHonestLog r j → (epoch : ℕ) (to : List ℕ) (statuses : List Status)
    → Backed r epoch to → ending (r.logs j).ended epoch ≡ Some (Skipped statuses) → ⊥
backed-not-skipped r honest few forged j is epoch to statuses backed ended =
    no_quorum r.council.logs r.council.quorum statuses to (λ log. is_dishonest r (log_party log)) (Backs r epoch to) right.are_seen.of_logs right.excludes (few-dishonest r few LogServer r.council.logs) each backed
  where
    h : IsOfHonestLog r.council j (r.logs j)
    h = honest.logs j is

    right : IsRightSkip r.council (r.logs j).seen epoch statuses
    right = h.skips_rightly epoch statuses ended

    within : (1 ≤ epoch) × (epoch ≤ length (r.logs j).ended)
    within = ending-within (r.logs j).ended h.ends_in_order epoch (Skipped statuses) ended

    n : (n : ℕ) × (epoch ≡ n + 1)
    n = before epoch within.0

    reports : (log : ℕ) → IsHonestLog r log → (from : List ℕ) → HasVoted (r.logs log).voted epoch (record { base = from; root = to }) → All (λ (s : Status). s.0 ≡ log → IsTrue (is_for to s.1)) statuses
    reports log good from voted = λ k d less same.
        let s : Status = get_or statuses k d in
        let saw : Saw (r.logs j).seen (log_party s.0) (status_claim s.0 epoch s.1) = right.are_seen.saw k d less in
        let here : Saw (r.logs j).seen (log_party log) (status_claim log epoch s.1) = subst (λ l. Saw (r.logs j).seen (log_party l) (status_claim l epoch s.1)) same saw in
        let there = forged.logs j is (log_party log) (text_of (status_claim log epoch s.1)) good here in
        let value = right.are_seen.values k d less in
        let valid : IsValid (status_claim log epoch s.1) =
        subst (λ e. IsValid (status_claim log e s.1)) (sym n.1) (valid-status log n.0 s.1 (small r honest log good.known) (omega (arith, n.1, within.1, h.ends_in_order.in_range)) value) in
        let stated : HasStated (r.logs log).stated epoch s.1 = (statuses-signed r.council log (r.logs log) epoch s.1 (honest.logs log good) valid).0 there in
        let told : s.1 ≡ Some (record { base = from; root = to }) =
        status-is-vote r.council log (r.logs log) epoch s.1 (record { base = from; root = to }) (honest.logs log good) stated voted in
        ap (is_for to) told ∙ (bytes_eq-Decides to to).1 refl

    each : (log : ℕ) → log < r.council.logs → Backs r epoch to log → IsTrue (is_dishonest r (log_party log)) ⊎ All (λ (s : Status). s.0 ≡ log → IsTrue (is_for to s.1)) statuses
    each log less (inl bad) = inl bad
    each log less (inr voted) = inr (reports log voted.0 voted.1.0 voted.1.1)
