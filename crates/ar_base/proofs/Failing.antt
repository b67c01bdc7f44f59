-- The first of a list of tests that fails, and what it says of the conditions that they decide; the first error of answers.
use Rattle.std.proofs.Common.{◌≡◌, inl, inr, ℕ, zero, suc, ◌<◌, Bool, List, [], ◌∷◌, ◌++◌, length, get_or, refl, ap, ◌∙◌, arith, true, false, cond, Result, Ok, Err, ◌↔◌}
use Rattle.std.specs.Prelude.{All, IsTrue}
use Rattle.std.specs.List.{AllByRecursion}
use Rattle.std.specs.Result.{result_and}
use Rattle.std.proofs.lemmas.List.Elements.{All-from_recursion, recursion_from_All}
use Rattle.ar_base.specs.FirstFailing.{first_error, first_failing, tests_of, AllHold, DecidesEach, FailsFirst}

-- the place of a test that fails, and all before it hold
abbrev pub FailsAtPlace : {E : Type 0} → List (E × Bool) → E → Type 0
FailsAtPlace {E} tests error = (place : ℕ) × ((place < length tests) × (((d : E × Bool) → get_or tests place d ≡ (error, false))
    × ((k : ℕ) (d : E × Bool) → k < place → IsTrue (get_or tests k d).1)))

pub fails_at_place : {E : Type 0} (tests : List (E × Bool)) (error : E) → first_failing tests ≡ Err error → FailsAtPlace tests error
fails_at_place [] error h = absurd (cc)
fails_at_place {E} (c ∷ cs) error h =
    elim (c.1) as (λ b. c.1 ≡ b → cond b (first_failing cs) (Err c.0) ≡ Err error → FailsAtPlace (c ∷ cs) error) [
      | true ↦ λ e h.
          let rest : FailsAtPlace cs error = fails_at_place cs error h in
          (suc rest.0, (omega (arith, rest.1.0), (rest.1.1.0, earlier c cs rest.0 e rest.1.1.1)))
      | false ↦ λ e h.
          let same : c.0 ≡ error = cc in
          (zero, (omega arith, ((λ d i. (same i, e i)), (λ k d l. absurd (omega arith)))))
    ] refl h where
      earlier : {E : Type 0} (c : E × Bool) (cs : List (E × Bool)) (place : ℕ) → c.1 ≡ true → ((k : ℕ) (d : E × Bool) → k < place → IsTrue (get_or cs k d).1) → (k : ℕ) (d : E × Bool) → k < suc place → IsTrue (get_or (c ∷ cs) k d).1
      earlier c cs place e before zero d l = e
      earlier c cs place e before (suc k) d l = before k d (omega arith)

-- each of tests of which none fails holds
pub each_holds : {E : Type 0} (tests : List (E × Bool)) → first_failing tests ≡ Ok tt → AllByRecursion (λ t. IsTrue t.1) tests
each_holds [] h = tt
each_holds (c ∷ cs) h =
    elim (c.1) as (λ b. c.1 ≡ b → cond b (first_failing cs) (Err c.0) ≡ Ok tt → AllByRecursion (λ t. IsTrue t.1) (c ∷ cs)) [
      | true ↦ λ e h. (e, each_holds cs h)
      | false ↦ λ e h. absurd (cc)
    ] refl h

-- and none fails of tests that each hold
pub none_fails : {E : Type 0} (tests : List (E × Bool)) → AllByRecursion (λ t. IsTrue t.1) tests → first_failing tests ≡ Ok tt
none_fails [] all = refl
none_fails (c ∷ cs) all = ap (λ b. cond b (first_failing cs) (Err c.0)) all.0 ∙ none_fails cs all.1

-- the first of tests of which none fails
pub first-holds : {E : Type 0} (fault : E) (test : Bool) (tests : List (E × Bool)) → first_failing ((fault, test) ∷ tests) ≡ Ok tt → test ≡ true
first-holds fault test tests h = (each_holds ((fault, test) ∷ tests) h).0

pub all_hold : {E : Type 0} (tests : List (E × Bool)) → (first_failing tests ≡ Ok tt) ↔ All (λ t. IsTrue t.1) tests
all_hold tests =
    ((λ h. All-from_recursion (λ t. IsTrue t.1) tests (each_holds tests h)), (λ all. none_fails tests (recursion_from_All (λ t. IsTrue t.1) tests all)))

-- ---- tests that decide conditions

pub conditions_hold : {C E : Type 0} (name_of : C → E) (Holds : C → Type 0) (test : C → Bool) → DecidesEach test Holds → (conditions : List C)
    → (first_failing (tests_of name_of test conditions) ≡ Ok tt) ↔ AllHold Holds conditions
conditions_hold name_of Holds test d [] = ((λ h. tt), (λ h. refl))
conditions_hold {C} {E} name_of Holds test d (c ∷ cs) =
    let rest = conditions_hold name_of Holds test d cs in
    elim (test c) as (λ b. test c ≡ b → (cond b (first_failing (tests_of name_of test cs)) (Err (name_of c)) ≡ Ok tt) ↔ AllHold Holds (c ∷ cs)) [
      | true ↦ λ e. ((λ h. ((d c).0 e, rest.0 h)), (λ h. rest.1 h.1))
      | false ↦ λ e. ((λ h. absurd cc), (λ h. let t : test c ≡ true = (d c).1 h.0 in absurd cc))
    ] refl

pub condition_fails : {C E : Type 0} (name_of : C → E) (Holds : C → Type 0) (test : C → Bool) → DecidesEach test Holds → (conditions : List C) (name : E)
    → (first_failing (tests_of name_of test conditions) ≡ Err name) ↔ FailsFirst name_of Holds conditions name
condition_fails name_of Holds test d [] name = ((λ h. absurd cc), (λ h. absurd h))
condition_fails {C} {E} name_of Holds test d (c ∷ cs) name =
    let rest = condition_fails name_of Holds test d cs name in
    elim (test c) as (λ b. test c ≡ b → (cond b (first_failing (tests_of name_of test cs)) (Err (name_of c)) ≡ Err name) ↔ FailsFirst name_of Holds (c ∷ cs) name) [
      | true ↦ λ e. ((λ h. inr ((d c).0 e, rest.0 h)), (λ h. holding e rest h))
      | false ↦ λ e. ((λ h. inl (cc, (λ holds. let t : test c ≡ true = (d c).1 holds in absurd cc))), (λ h. failing e h))
    ] refl where
      holding : test c ≡ true → (first_failing (tests_of name_of test cs) ≡ Err name) ↔ FailsFirst name_of Holds cs name → FailsFirst name_of Holds (c ∷ cs) name → first_failing (tests_of name_of test cs) ≡ Err name
      holding e rest (inl first) = absurd (first.1 ((d c).0 e))
      holding e rest (inr later) = rest.1 later.1

      err : E → Result (Unit {0}) E
      err = Err

      failing : test c ≡ false → FailsFirst name_of Holds (c ∷ cs) name → err (name_of c) ≡ err name
      failing e (inl first) = ap err first.0
      failing e (inr later) = let t : test c ≡ true = (d c).1 later.0 in absurd cc

-- ---- answers

-- each of answers is good where none is an error
pub all-good : {E : Type 0} (answers : List (Result (Unit {0}) E)) → first_error answers ≡ Ok tt → AllByRecursion (λ a. a ≡ Ok tt) answers
all-good [] is = tt
all-good (Ok u ∷ answers) is = (refl, all-good answers is)
all-good (Err error ∷ answers) is = absurd cc

-- and none is an error where each is good
pub none-bad : {E : Type 0} (answers : List (Result (Unit {0}) E)) → AllByRecursion (λ a. a ≡ Ok tt) answers → first_error answers ≡ Ok tt
none-bad [] all = refl
none-bad (Ok u ∷ answers) all = none-bad answers all.1
none-bad (Err error ∷ answers) all = let bad = all.0 in absurd cc

-- of answers behind others, the first error of the others comes first
pub error-append : {E : Type 0} (some behind : List (Result (Unit {0}) E)) → first_error (some ++ behind) ≡ result_and (first_error some) (first_error behind)
error-append [] behind = refl
error-append (Ok u ∷ some) behind = error-append some behind
error-append (Err error ∷ some) behind = refl

-- an error behind good answers is the first
pub error-behind : {E : Type 0} (good behind : List (Result (Unit {0}) E)) (error : E) → AllByRecursion (λ a. a ≡ Ok tt) good
    → first_error (good ++ Err error ∷ behind) ≡ Err error
error-behind good behind error all = error-append good (Err error ∷ behind) ∙ ap (λ a. result_and a (Err error)) (none-bad good all)
