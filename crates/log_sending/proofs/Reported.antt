-- The root that comes before each that is reported is the most reported.
use Rattle.std.proofs.Common.{◌≡◌, ℕ, zero, suc, ◌+◌, ◌<◌, List, [], ◌∷◌, get_or, refl, sym, ap, ◌∙◌, subst, arith, Bool, true, false, ◌&&◌, ◌||◌, eqb, nat_lt, Option, Some, None}
use Rattle.std.specs.Prelude.{All, Contains, find, option_and_then}
use Rattle.std.specs.List.{AllByRecursion, count_by, list_all}
use Rattle.std.specs.Option.{option_map}
use Rattle.std.specs.Ordering.{nat_cmp, is_le}
use Rattle.std.specs.Cmp.Lexicographic.{slice_cmp}
use Rattle.std.proofs.lemmas.Bool.{and_parts, eq-eqb, eqb-true, ltb-true}
use Rattle.std.proofs.lemmas.List.Sums.{sum_by-cons}
use Rattle.std.proofs.lemmas.Slice.Eq.{bytes_eq-Decides}
use Rattle.std.proofs.lemmas.List.Elements.{All-contains, All-contains_itself, All-from_recursion, All-weaker, recursion_from_All}
use Rattle.ar_base.specs.Counting.{one_if}
use Rattle.vote_quorum.specs.Statuses.{IsMostReported, ComesBefore, Status, is_for, report_count}
use Rattle.vote_quorum.specs.declared.value.Value.{Value}
use Rattle.vote_quorum.proofs.Reported.{first_of_all, one_most}
use Rattle.ar_council.proofs.Lists.{find-none, find-nothing, find-some}
use Rattle.log_sending.specs.Reported.{comes_before, comes_before_reported, most_reported, reports_first, reports_of_root}
use Rattle.epoch_log.proofs.Counted.{counted-root}

-- ---- the test of leading

from-test : (root other : List ℕ) (count others : ℕ) → comes_before root count other others ≡ true → ComesBefore root count other others
from-test root other count others is = by (nat_lt others count) refl is
  where
    least : Bool
    least = is_le (slice_cmp nat_cmp root other)

    by : (b : Bool) → nat_lt others count ≡ b → (b || (eqb others count && least)) ≡ true → ComesBefore root count other others
    by true less fine = let l = ltb-true others count less in (omega (arith, l), λ same. absurd (omega (arith, l, same)))
    by false more fine =
        let two = and_parts (eqb others count) least fine in
        (let same = eqb-true others count two.0 in omega (arith, same), λ _. two.1)

to-test : (root other : List ℕ) (count others : ℕ) → ComesBefore root count other others → comes_before root count other others ≡ true
to-test root other count others leads = by (nat_lt others count) refl
  where
    least : Bool
    least = is_le (slice_cmp nat_cmp root other)

    equal : nat_lt others count ≡ false → others ≡ count
    equal fails = grind (arith, leads.0, fails)

    by : (b : Bool) → nat_lt others count ≡ b → (b || (eqb others count && least)) ≡ true
    by true less = refl
    by false more =
        let same : others ≡ count = equal more in
        let yes : eqb others count ≡ true = eq-eqb others count same in
        let small : least ≡ true = leads.1 same in
        subst (λ b. (b && least) ≡ true) (sym yes) small

-- ---- what is reported

all-each : {X : Type 0} (p : X → Bool) (xs : List X) → list_all p xs ≡ true → AllByRecursion (λ x. p x ≡ true) xs
all-each p [] is = tt
all-each p (x ∷ xs) is = let two = and_parts (p x) (list_all p xs) is in (two.0, all-each p xs two.1)

each-all : {X : Type 0} (p : X → Bool) (xs : List X) → AllByRecursion (λ x. p x ≡ true) xs → list_all p xs ≡ true
each-all p [] all = refl
each-all p (x ∷ xs) all = subst (λ b. (b && list_all p xs) ≡ true) (sym all.0) (each-all p xs all.1)

some-counted : {X : Type 0} (p : X → Bool) (xs : List X) → 0 < count_by p xs → (x : X) × (Contains xs x × (p x ≡ true))
some-counted p [] some = absurd (omega (arith, some))
some-counted {X} p (x ∷ xs) some = by (p x) refl (some-counted p xs)
  where
    by : (b : Bool) → p x ≡ b → (0 < count_by p xs → (y : X) × (Contains xs y × (p y ≡ true))) → (y : X) × (Contains (x ∷ xs) y × (p y ≡ true))
    by true is rest = (x, ((0, omega arith, refl), is))
    by false is rest =
        let step : count_by p (x ∷ xs) ≡ one_if (p x) + count_by p xs = sum_by-cons (λ (y : X). one_if (p y)) x xs in
        let none : one_if (p x) ≡ 0 = ap one_if is in
        let later = rest (omega (arith, some, step, none)) in
        (later.0, ((suc later.1.0.0, omega (arith, later.1.0.1), later.1.0.2), later.1.1))

counted : {X : Type 0} (p : X → Bool) (xs : List X) (x : X) → Contains xs x → p x ≡ true → 0 < count_by p xs
counted {X} p [] x there is = absurd (omega (arith, there.1))
counted {X} p (y ∷ ys) x (zero, less, same) is =
    let step : count_by p (y ∷ ys) ≡ one_if (p y) + count_by p ys = sum_by-cons (λ (z : X). one_if (p z)) y ys in
    let one : one_if (p y) ≡ 1 = ap (λ z. one_if (p z)) same ∙ ap one_if is in omega (arith, step, one)
counted {X} p (y ∷ ys) x (suc k, less, same) is =
    let step : count_by p (y ∷ ys) ≡ one_if (p y) + count_by p ys = sum_by-cons (λ (z : X). one_if (p z)) y ys in
    let rest = counted p ys x (k, omega (arith, less), same) is in omega (arith, step, rest)

is-for-its : (v : Value) (value : Option Value) → value ≡ Some v → is_for v.root value ≡ true
is-for-its v value is = ap (λ o. is_for v.root o) is ∙ (bytes_eq-Decides v.root v.root).1 refl

its-count : (all : List Status) (s : Status) (v : Value) → Contains all s → s.1 ≡ Some v → 0 < report_count v.root all
its-count all s v there is = counted (λ (t : Status). is_for v.root t.1) all s there (is-for-its v s.1 is)

-- ---- what comes before each is the most reported

leads-each : (all : List Status) (v : Value) → reports_first all (Some v) ≡ true → (other : List ℕ) → 0 < report_count other all
    → ComesBefore v.root (report_count v.root all) other (report_count other all)
leads-each all v first other some =
    let found = some-counted (λ (t : Status). is_for other t.1) all some in
    let w = counted-root other found.0.1 found.1.1 in
    let tests = All-from_recursion (λ (t : Status). comes_before_reported all v.root t.1 ≡ true) all (all-each (λ (t : Status). comes_before_reported all v.root t.1) all first) in
    let one : comes_before_reported all v.root found.0.1 ≡ true = All-contains (λ (t : Status). comes_before_reported all v.root t.1 ≡ true) all found.0 tests found.1.0 in
    let two : comes_before v.root (report_count v.root all) w.0.root (report_count w.0.root all) ≡ true = subst (λ o. comes_before_reported all v.root o ≡ true) w.1.0 one in
    subst (λ root. ComesBefore v.root (report_count v.root all) root (report_count root all)) w.1.1 (from-test v.root w.0.root (report_count v.root all) (report_count w.0.root all) two)

first-most : (all : List Status) (s : Status) (v : Value) → Contains all s → s.1 ≡ Some v → reports_first all (Some v) ≡ true
    → IsMostReported all (Some v.root) (report_count v.root all)
first-most all s v there is first = first_of_all all (Some v.root) (report_count v.root all) (refl, its-count all s v there is, leads-each all v first)

most-first : (all : List Status) (root : List ℕ) (count : ℕ) (v : Value) → v.root ≡ root → IsMostReported all (Some root) count → reports_first all (Some v) ≡ true
most-first all root count v same most =
    each-all (λ (t : Status). comes_before_reported all v.root t.1) all (recursion_from_All (λ (t : Status). comes_before_reported all v.root t.1 ≡ true) all (λ k d less. by (get_or all k d).1))
  where
    by : (o : Option Value) → comes_before_reported all v.root o ≡ true
    by None = refl
    by (Some w) =
        to-test v.root w.root (report_count v.root all) (report_count w.root all)
        (subst (λ r. ComesBefore r (report_count r all) w.root (report_count w.root all)) (sym same)
        (subst (λ n. ComesBefore root n w.root (report_count w.root all)) (sym most.counted) (most.leads w.root)))

-- ---- the definition gives it

abbrev root-of : Status → Option (List ℕ)
root-of s = option_map (λ (value : Value). value.root) s.1

-- what is told of a root, or of none
abbrev told-of : List Status → Option (List ℕ) → Option (List ℕ) × ℕ
told-of all root = (root, reports_of_root all root)

abbrev pair-of : Option (List ℕ) → ℕ → Option (List ℕ) × ℕ
pair-of root count = (root, count)

none-first : (all : List Status) → ((root : List ℕ) → report_count root all ≡ 0) → All (λ s. reports_first all s.1 ≡ false) all
none-first all none =
    All-weaker (Contains all) (λ (s : Status). reports_first all s.1 ≡ false) (λ (s : Status) there. by s there s.1 refl) all (All-contains_itself all)
  where
    by : (s : Status) → Contains all s → (o : Option Value) → s.1 ≡ o → reports_first all o ≡ false
    by s there None is = refl
    by s there (Some v) is = let some = its-count all s v there is in absurd (omega (arith, some, none v.root))

pub most-is : (all : List Status) (most : Option (List ℕ)) (count : ℕ) → IsMostReported all most count → most_reported all ≡ (most, count)
unfolding most_reported
most-is all None count is =
    let nothing : find (λ (s : Status). reports_first all s.1) all ≡ None =
    find-none (λ (s : Status). reports_first all s.1) all (recursion_from_All (λ (s : Status). reports_first all s.1 ≡ false) all (none-first all is.1)) in
    ap (λ (o : Option Status). told-of all (option_and_then root-of o)) nothing ∙ ap (λ n. pair-of None n) (sym is.0)
most-is all (Some root) count is = by (find (λ (s : Status). reports_first all s.1) all) refl
  where
    some : (s : Status) × (Contains all s × (is_for root s.1 ≡ true))
    some = some-counted (λ (t : Status). is_for root t.1) all (omega (arith, is.reported, is.counted))

    its : (v : Value) × ((some.0.1 ≡ Some v) × (v.root ≡ root))
    its = counted-root root some.0.1 some.1.1

    passes : reports_first all some.0.1 ≡ true
    passes = ap (λ o. reports_first all o) its.1.0 ∙ most-first all root count its.0 its.1.1 is

    same : (t : Status) (o : Option Value) → t.1 ≡ o → Contains all t → reports_first all o ≡ true
        → told-of all (option_map (λ (value : Value). value.root) o) ≡ pair-of (Some root) count
    same t None was there first = absurd cc
    same t (Some v) was there first =
        let one = one_most all (Some v.root) (Some root) (report_count v.root all) count (first-most all t v there was first) is in
        λ i. (one.0 i, one.1 i)

    by : (o : Option Status) → find (λ (s : Status). reports_first all s.1) all ≡ o
        → told-of all (option_and_then root-of o) ≡ pair-of (Some root) count
    by None was =
        let fails = All-contains (λ (s : Status). reports_first all s.1 ≡ false) all some.0 (find-nothing (λ (s : Status). reports_first all s.1) all was) some.1.0 in
        let there : reports_first all some.0.1 ≡ true = passes in
        let same : true ≡ false = sym there ∙ fails in absurd cc
    by (Some t) was =
        let there = find-some (λ (s : Status). reports_first all s.1) all t was in
        same t t.1 refl there.0 there.1
