-- Which root is reported most often, with one more status.
use Rattle.std.proofs.Common.{◌≡◌, ℕ, ◌+◌, ◌<◌, ◌≤◌, List, [], length, get_or, take, refl, sym, ap, ◌∙◌, subst, arith, Bool, true, false, Option, Some, None, ◌⊎◌, inl, inr, ⊎_elim, ◌↔◌, not}
use Rattle.std.specs.Prelude.{IfSome, IsSomeAnd, MatchBool}
use Rattle.std.specs.Ordering.{nat_cmp, is_le, ordering_reverse}
use Rattle.std.specs.declared.cmp.Ordering.TheVariants.{Less, Equal, Greater}
use Rattle.std.specs.Str.{bytes_eq}
use Rattle.std.specs.Cmp.Lexicographic.{slice_cmp}
use Rattle.std.specs.FinMap.{slice_cmp-IsAntisymmetric, nat_cmp-IsAntisymmetric}
use Rattle.std.specs.BTreeMap.Comparable.{le_lt_trans}
use Rattle.std.proofs.lemmas.Bool.{cases_order}
use Rattle.std.proofs.lemmas.Cmp.{nat_list_cmp_total, tied_itself}
use Rattle.std.proofs.lemmas.List.Sums.{sum_by_more, sum_by_more_le, count_by-le-length}
use Rattle.std.proofs.lemmas.Slice.Eq.{bytes_eq-Decides}
use Rattle.vote_quorum.specs.declared.value.Value.{Value}
use Rattle.ar_base.specs.Counting.{one_if}
use Rattle.vote_quorum.specs.Statuses.{Status, is_for, report_count, ComesBefore, IsMostReported}

-- ---- the order of roots

le_itself : (x : List ℕ) → is_le (slice_cmp nat_cmp x x) ≡ true
le_itself x = ap is_le (tied_itself nat_list_cmp_total x)

le_both : (x y : List ℕ) → slice_cmp nat_cmp x y ≡ Equal → x ≡ y
le_both = slice_cmp-IsAntisymmetric nat_cmp-IsAntisymmetric

le_through : (x y z : List ℕ) → is_le (slice_cmp nat_cmp x y) ≡ true → is_le (slice_cmp nat_cmp y z) ≡ true → is_le (slice_cmp nat_cmp x z) ≡ true
le_through x y z one other =
    elim (slice_cmp nat_cmp y z) as (λ o. slice_cmp nat_cmp y z ≡ o → is_le o ≡ true → is_le (slice_cmp nat_cmp x z) ≡ true) [
      | Less ↦ λ e _. ap is_le (le_lt_trans nat_list_cmp_total x y z one e)
      | Equal ↦ λ e _. subst (λ w. is_le (slice_cmp nat_cmp x w) ≡ true) (le_both y z e) one
      | Greater ↦ λ _ h. absurd (cc)
    ] refl other

both_least : (x y : List ℕ) → is_le (slice_cmp nat_cmp x y) ≡ true → is_le (slice_cmp nat_cmp y x) ≡ true → x ≡ y
both_least x y one other =
    elim (slice_cmp nat_cmp x y) as (λ o. slice_cmp nat_cmp x y ≡ o → is_le o ≡ true → x ≡ y) [
      | Less ↦ λ e _. absurd (let turned : is_le (slice_cmp nat_cmp y x) ≡ false = ap is_le (nat_list_cmp_total.antisymm y x ∙ ap ordering_reverse e) in cc)
      | Equal ↦ λ e _. le_both x y e
      | Greater ↦ λ _ h. absurd (cc)
    ] refl one

le_turned : (x y : List ℕ) → is_le (slice_cmp nat_cmp x y) ≡ false → is_le (slice_cmp nat_cmp y x) ≡ true
le_turned x y not =
    elim (slice_cmp nat_cmp x y) as (λ o. slice_cmp nat_cmp x y ≡ o → is_le o ≡ false → is_le (slice_cmp nat_cmp y x) ≡ true) [
      | Less ↦ λ _ h. absurd (cc)
      | Equal ↦ λ _ h. absurd (cc)
      | Greater ↦ λ e _. ap is_le (nat_list_cmp_total.antisymm y x ∙ ap ordering_reverse e)
    ] refl not

leads_itself : (x : List ℕ) (n : ℕ) → ComesBefore x n x n
leads_itself x n = (omega arith, λ _. le_itself x)

leads_through : (x y z : List ℕ) (k l m : ℕ) → ComesBefore x k y l → ComesBefore y l z m → ComesBefore x k z m
leads_through x y z k l m one other = (
  omega (arith, one.0, other.0),
  λ same.
      let first : l ≡ k = omega (arith, one.0, other.0, same) in
      let second : m ≡ l = omega (arith, one.0, other.0, same) in
      le_through x y z (one.1 first) (other.1 second),
)

pub leads_turned : (x y : List ℕ) (k l : ℕ) → (ComesBefore x k y l → ⊥) → ComesBefore y l x k
leads_turned x y k l not =
    ⊎_elim
    (λ (same : l ≡ k).
    elim (is_le (slice_cmp nat_cmp x y)) as (λ b. is_le (slice_cmp nat_cmp x y) ≡ b → ComesBefore y l x k) [
      | true ↦ λ e. absurd (not (omega (arith, same), λ _. e))
      | false ↦ λ e. (omega (arith, same), λ _. le_turned x y e)
    ] refl)
    (λ (apart : (l < k) ⊎ (k < l)).
    ⊎_elim
    (λ (less : l < k). absurd (not (omega (arith, less), λ same. absurd (omega (arith, less, same)))))
    (λ (more : k < l). (omega (arith, more), λ same. absurd (omega (arith, more, same))))
    apart)
    (cases_order l k)

-- ---- counts of reports

-- the one status that stands beside all
abbrev none : Status
none = (0, None)

-- with one more status
pub report_count-more : (root : List ℕ) (ss : List Status) (i : ℕ) → i < length ss → report_count root (take (i + 1) ss) ≡ report_count root (take i ss) + one_if (is_for root (get_or ss i none).1)
report_count-more root ss i h = sum_by_more (λ (s : Status). one_if (is_for root s.1)) ss i none h

-- a status that reports a root is counted
pub report_count-some : (root : List ℕ) (ss : List Status) (i : ℕ) → i < length ss → is_for root (get_or ss i none).1 ≡ true → 0 < report_count root ss
report_count-some root ss i h is =
    let within : report_count root (take i ss) + one_if (is_for root (get_or ss i none).1) ≤ report_count root ss = sum_by_more_le (λ (s : Status). one_if (is_for root s.1)) ss i none h in
    let one : one_if (is_for root (get_or ss i none).1) ≡ 1 = ap one_if is in
    omega (arith, within, one)

pub report_count-le : (root : List ℕ) (ss : List Status) → report_count root ss ≤ length ss
report_count-le root ss = count_by-le-length (λ (s : Status). is_for root s.1) ss

-- ---- the first of the roots that are reported in the front of a list, by their counts in all of it

abbrev pub IsFirstIn : List Status → List Status → Option (List ℕ) → ℕ → Type 0
IsFirstIn all front None count = (count ≡ 0) × ((root : List ℕ) → report_count root front ≡ 0)
IsFirstIn all front (Some root) count =
    (report_count root all ≡ count) × (0 < count) × ((other : List ℕ) → 0 < report_count other front → ComesBefore root count other (report_count other all))

-- a status without a ballot changes nothing
pub first_stays : (all : List Status) (i : ℕ) (most : Option (List ℕ)) (count : ℕ) → i < length all → (get_or all i none).1 ≡ None → IsFirstIn all (take i all) most count → IsFirstIn all (take (i + 1) all) most count
first_stays all i None count h absent first =
    (first.0, λ root. report_count-more root all i h ∙ omega (arith, first.1 root, ap (λ b. one_if (is_for root b)) absent))
first_stays all i (Some root) count h absent first = (
  first.0,
  first.1,
  λ other some.
      first.2 other (omega (arith, some, report_count-more other all i h, ap (λ b. one_if (is_for other b)) absent)),
)

-- whose root a ballot is for
is_for-same : (root : List ℕ) (v : Value) → 0 < one_if (is_for root (Some v)) → v.root ≡ root
is_for-same root v some =
    elim (bytes_eq v.root root) as (λ b. bytes_eq v.root root ≡ b → 0 < one_if b → v.root ≡ root) [
      | true ↦ λ e _. (bytes_eq-Decides v.root root).0 e
      | false ↦ λ _ h. absurd (omega arith)
    ] refl some

-- a root that is reported in the longer front is reported in the shorter one, or is the new one
in_front : (all : List Status) (i : ℕ) (v : Value) (other : List ℕ) → i < length all → (get_or all i none).1 ≡ Some v → 0 < report_count other (take (i + 1) all) → (0 < report_count other (take i all)) ⊎ (v.root ≡ other)
in_front all i v other h is some =
    elim (is_for other (Some v)) as (λ b. is_for other (Some v) ≡ b → (0 < report_count other (take i all)) ⊎ (v.root ≡ other)) [
      | true ↦ λ e. inr (is_for-same other v (omega (arith, ap one_if e)))
      | false ↦ λ e. inl (omega (arith, some, report_count-more other all i h, ap (λ b. one_if (is_for other b)) is, ap one_if e))
    ] refl

-- what leads the front and the new root leads the longer front
leads_more : (all : List Status) (i : ℕ) (v : Value) (root : List ℕ) (count : ℕ) → i < length all → (get_or all i none).1 ≡ Some v
    → ((other : List ℕ) → 0 < report_count other (take i all) → ComesBefore root count other (report_count other all)) → ComesBefore root count v.root (report_count v.root all)
    → (other : List ℕ) → 0 < report_count other (take (i + 1) all) → ComesBefore root count other (report_count other all)
leads_more all i v root count h is front new other some =
    ⊎_elim (front other)
    (λ (same : v.root ≡ other). subst (λ x. ComesBefore root count x (report_count x all)) same new)
    (in_front all i v other h is some)

-- the first so far leads the new root
pub leader_stays : (all : List Status) (i : ℕ) (v : Value) (most : Option (List ℕ)) (count : ℕ) → i < length all → (get_or all i none).1 ≡ Some v
    → IsSomeAnd most (λ root. ComesBefore root count v.root (report_count v.root all)) → IsFirstIn all (take i all) most count → IsFirstIn all (take (i + 1) all) most count
leader_stays all i v None count h is new first = absurd new
leader_stays all i v (Some root) count h is new first = (first.0, first.1, leads_more all i v root count h is first.2 new)

-- the new root leads the first so far
pub leader_goes : (all : List Status) (i : ℕ) (v : Value) (most : Option (List ℕ)) (count : ℕ) → i < length all → (get_or all i none).1 ≡ Some v
    → IfSome most (λ root. ComesBefore v.root (report_count v.root all) root count)
    → IsFirstIn all (take i all) most count → IsFirstIn all (take (i + 1) all) (Some v.root) (report_count v.root all)
leader_goes all i v most count h is new first = (
  refl,
  report_count-some v.root all i h (ap (is_for v.root) is ∙ (bytes_eq-Decides v.root v.root).1 refl),
  leads_more all i v v.root (report_count v.root all) h is (front most new first) (leads_itself v.root (report_count v.root all)),
) where
  front : (most : Option (List ℕ)) → IfSome most (λ root. ComesBefore v.root (report_count v.root all) root count)
      → IsFirstIn all (take i all) most count → (other : List ℕ) → 0 < report_count other (take i all) → ComesBefore v.root (report_count v.root all) other (report_count other all)
  front None new first other some = absurd (omega (arith, some, first.1 other))
  front (Some root) new first other some = leads_through v.root root other (report_count v.root all) count (report_count other all) new (first.2 other some)

-- the first in the whole list
pub first_of_all : (all : List Status) (most : Option (List ℕ)) (count : ℕ) → IsFirstIn all all most count → IsMostReported all most count
first_of_all all None count first = first
first_of_all all (Some root) count first = record { counted = first.0; reported = first.1; leads = each } where
  each : (other : List ℕ) → ComesBefore root count other (report_count other all)
  each other =
      ⊎_elim
      (λ (unreported : report_count other all ≡ 0). (omega (arith, unreported), λ same. absurd (omega (arith, first.1, unreported, same))))
      (λ (apart : (report_count other all < 0) ⊎ (0 < report_count other all)).
      ⊎_elim (λ (less : report_count other all < 0). absurd (omega (arith, less))) (first.2 other) apart)
      (cases_order (report_count other all) 0)

-- no root is reported more often
pub none_more : (all : List Status) (most : Option (List ℕ)) (count : ℕ) → IsMostReported all most count → (root : List ℕ) → report_count root all ≤ count
none_more all None count first root = omega (arith, first.1 root)
none_more all (Some most) count first root = (first.leads root).0

-- and one is reported as often
pub one_as_often : (all : List Status) (most : Option (List ℕ)) (count : ℕ) → IsMostReported all most count → (root : List ℕ) × (report_count root all ≡ count)
one_as_often all None count first = ([], first.1 [] ∙ sym first.0)
one_as_often all (Some most) count first = (most, first.counted)

-- the same in other words
pub first_moved : (all front : List Status) (m n : Option (List ℕ)) (k l : ℕ) → n ≡ m → l ≡ k → IsFirstIn all front m k → IsFirstIn all front n l
first_moved all front m n k l e f first = subst (λ o. IsFirstIn all front o l) (sym e) (subst (IsFirstIn all front m) (sym f) first)

-- whether a root comes before the first so far, by the test of the other way round
pub before_first : (first : Option (List ℕ)) (other root : List ℕ) (most count : ℕ) (b : Bool) → first ≡ Some other → (b ≡ true) ↔ ComesBefore other most root count
    → MatchBool (not b) (IfSome first (λ x. ComesBefore root count x most)) (IsSomeAnd first (λ x. ComesBefore x most root count))
before_first first other root most count true is test = subst (λ o. IsSomeAnd o (λ x. ComesBefore x most root count)) (sym is) (test.0 refl)
before_first first other root most count false is test =
    subst (λ o. IfSome o (λ x. ComesBefore root count x most)) (sym is) (leads_turned other root most count (λ leads. absurd (let no : false ≡ true = test.1 leads in cc)))

-- one root alone is reported most often
pub one_most : (all : List Status) (one other : Option (List ℕ)) (k l : ℕ) → IsMostReported all one k → IsMostReported all other l → (one ≡ other) × (k ≡ l)
one_most all None None k l first second = (refl, first.0 ∙ sym second.0)
one_most all None (Some other) k l first second = absurd (omega (arith, first.1 other, second.counted, second.reported))
one_most all (Some one) None k l first second = absurd (omega (arith, second.1 one, first.counted, first.reported))
one_most all (Some one) (Some other) k l first second =
    let over : ComesBefore one k other l = subst (ComesBefore one k other) second.counted (first.leads other) in
    let under : ComesBefore other l one k = subst (ComesBefore other l one) first.counted (second.leads one) in
    let same : k ≡ l = omega (arith, over.0, under.0) in
    (ap (λ x. Some x) (both_least one other (over.1 (sym same)) (under.1 same)), same)
