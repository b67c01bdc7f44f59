-- Of three numbers that two lists share, one is beside any two.
use Rattle.std.proofs.Common.{◌≡◌, ◌≢◌, ℕ, ◌+◌, ◌-◌, ◌≤◌, List, [], ◌∷◌, refl, sym, ap, ◌∙◌, arith, Bool, true, false, eqb, not, ◌&&◌, ◌||◌}
use Rattle.std.specs.Prelude.{Contains}
use Rattle.std.specs.List.{filter, list_any}
use Rattle.std.specs.Ordering.{nat_cmp}
use Rattle.std.specs.Cmp.{unsigned_tied}
use Rattle.std.specs.FinSet.{len, contains, empty, remove, contains-from_list_nat, contains-empty, contains-remove, len-remove, len-empty, same_set, nat_cmp-IsAntisymmetric}
use Rattle.std.proofs.lemmas.Cmp.{nat_cmp_total}
use Rattle.std.proofs.lemmas.Bool.{eqb-true, eqb-false, and_parts, or_parts, not-true, cond_both, eq-eqb, or_left, or_right}
use Rattle.vote_quorum.specs.Numbers.{Numbers, set_of, distinct_count, shared_count}
use Rattle.vote_quorum.proofs.Counting.{among, Contains-from_among}
use Rattle.vote_quorum.proofs.Shared.{among-filter, shared_count-filter}

-- a number of the list that passes
one_passes : (test : ℕ → Bool) (xs : List ℕ) → list_any test xs ≡ true → (x : ℕ) × ((among x xs ≡ true) × (test x ≡ true))
one_passes test [] h = absurd (cc)
one_passes test (y ∷ ys) h =
    elim (test y) as (λ b. test y ≡ b → (b || list_any test ys) ≡ true → (x : ℕ) × (((eqb y x || among x ys) ≡ true) × (test x ≡ true))) [
      | true ↦ λ e _. (y, (or_left (eqb y y) (among y ys) (eq-eqb y y refl), e))
      | false ↦ λ _ rest. let found : (x : ℕ) × ((among x ys ≡ true) × (test x ≡ true)) = one_passes test ys rest in
          (found.0, (or_right (eqb y found.0) (among found.0 ys) found.1.0, found.1.1))
    ] refl h

-- where none passes, each number of the list fails
none_passes : (test : ℕ → Bool) (xs : List ℕ) → list_any test xs ≡ false → (q : ℕ) → among q xs ≡ true → test q ≡ false
none_passes test [] h q there = absurd (cc)
none_passes test (y ∷ ys) h q there =
    let parts : (test y ≡ false) × (list_any test ys ≡ false) = or_parts (test y) (list_any test ys) h in
    elim (eqb y q) as (λ b. eqb y q ≡ b → (b || among q ys) ≡ true → test q ≡ false) [
      | true ↦ λ e _. ap test (sym (eqb-true y q e)) ∙ parts.0
      | false ↦ λ _ rest. none_passes test ys parts.1 q rest
    ] refl there

-- one number less
len-without : (s : Numbers) (a : ℕ) → len s ≤ len (remove s a) + 1
len-without s a =
    rw (len-remove nat_cmp_total s a)
    (cond_both (contains s a) (len s - 1) (len s) (λ n. len s ≤ n + 1) (λ _. omega arith) (λ _. omega arith))

-- a number that is not a and not b
abbrev beside : ℕ → ℕ → ℕ → Bool
beside a b q = not (eqb q a) && not (eqb q b)

-- the same tests in the order in which the two numbers are taken away
bits : (x y : Bool) → (not x && not y) ≡ false → (not y && (not x && true)) ≡ false
bits true true h = refl
bits true false h = refl
bits false true h = refl
bits false false h = h

ends : (x y : Bool) → (not y && (not x && false)) ≡ false
ends true true = refl
ends true false = refl
ends false true = refl
ends false false = refl

-- numbers that are all a or b are at most two
at_most_two : (zs : List ℕ) (a b : ℕ) → list_any (beside a b) zs ≡ false → distinct_count zs ≤ 2
at_most_two zs a b none =
    let nothing : remove (remove (set_of zs) a) b ≡ empty =
    same_set nat_cmp_total nat_cmp-IsAntisymmetric _ _ (λ q.
    contains-remove nat_cmp_total (remove (set_of zs) a) b q
    ∙ ap (λ t. not t && contains (remove (set_of zs) a) q) (unsigned_tied q b)
    ∙ ap (λ t. not (eqb q b) && t)
    (contains-remove nat_cmp_total (set_of zs) a q
    ∙ ap (λ t. not t && contains (set_of zs) q) (unsigned_tied q a)
    ∙ ap (λ t. not (eqb q a) && t) (contains-from_list_nat zs q))
    ∙ each q
    ∙ sym (contains-empty nat_cmp q)) in
    omega (arith, len-without (set_of zs) a, len-without (remove (set_of zs) a) b, ap len nothing, len-empty nat_cmp) where
      each : (q : ℕ) → (not (eqb q b) && (not (eqb q a) && among q zs)) ≡ false
      each q =
          elim (among q zs) as (λ t. among q zs ≡ t → (not (eqb q b) && (not (eqb q a) && t)) ≡ false) [
            | true ↦ λ there. bits (eqb q a) (eqb q b) (none_passes (beside a b) zs none q there)
            | false ↦ λ _. ends (eqb q a) (eqb q b)
          ] refl

differs : (q a : ℕ) → not (eqb q a) ≡ true → q ≢ a
differs q a h = eqb-false q a (not-true (eqb q a) h)

pub one_beside : (one other : List ℕ) (a b : ℕ) → 3 ≤ shared_count one other → (log : ℕ) × (Contains one log × Contains other log × (log ≢ a) × (log ≢ b))
one_beside one other a b three =
    let many : 3 ≤ distinct_count (filter (λ x. among x other) one) = omega (arith, shared_count-filter one other) in
    elim (list_any (beside a b) (filter (λ x. among x other) one)) as (λ t. list_any (beside a b) (filter (λ x. among x other) one) ≡ t → (log : ℕ) × (Contains one log × Contains other log × (log ≢ a) × (log ≢ b))) [
      | true ↦ λ found.
          let x = one_passes (beside a b) (filter (λ x. among x other) one) found in
          let both = and_parts (among x.0 one) (among x.0 other) (sym (among-filter (λ x. among x other) x.0 one) ∙ x.1.0) in
          let apart = and_parts (not (eqb x.0 a)) (not (eqb x.0 b)) x.1.1 in
          (x.0, (Contains-from_among one x.0 both.0, Contains-from_among other x.0 both.1, differs x.0 a apart.0, differs x.0 b apart.1))
      | false ↦ λ none. absurd (let few : distinct_count (filter (λ x. among x other) one) ≤ 2 = at_most_two (filter (λ x. among x other) one) a b none in omega arith)
    ] refl
