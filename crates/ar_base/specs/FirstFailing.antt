-- The first that fails of an ordered list: of tests, where each has a fault of its own, of conditions, where each has a
-- name, and of answers.
use Rattle.std.specs.Prelude.{◌≡◌, ◌⊎◌, Bool, List, [], ◌∷◌, Result, Ok, Err, if◌then◌else◌, map}
use Rattle.std.specs.Bool.{Decides}
use Rattle.std.specs.Result.{result_and}

-- the fault of the first test that does not hold, or no fault where all hold
abbrev pub first_failing : {E : Type 0} → List (E × Bool) → Result (Unit {0}) E
first_failing [] = Ok tt
first_failing (test ∷ tests) = if test.1 then first_failing tests else Err test.0

-- the first error among answers, or none where each is good
abbrev pub first_error : {E : Type 0} → List (Result (Unit {0}) E) → Result (Unit {0}) E
first_error [] = Ok tt
first_error (answer ∷ answers) = result_and answer (first_error answers)

-- all of these conditions hold
abbrev pub AllHold : {C : Type 0} → (C → Type 0) → List C → Type 0
AllHold Holds [] = Unit {0}
AllHold Holds (condition ∷ conditions) = Holds condition × AllHold Holds conditions

-- the first of these conditions that does not hold has this name, and all before it hold
abbrev pub FailsFirst : {C E : Type 0} → (C → E) → (C → Type 0) → List C → E → Type 0
FailsFirst name_of Holds [] name = ⊥
FailsFirst name_of Holds (condition ∷ conditions) name =
    ((name_of condition ≡ name) × ¬ Holds condition) ⊎ (Holds condition × FailsFirst name_of Holds conditions name)

-- the tests of conditions, each with its name
abbrev pub tests_of : {C E : Type 0} → (C → E) → (C → Bool) → List C → List (E × Bool)
tests_of name_of test conditions = map (λ condition. (name_of condition, test condition)) conditions

-- each test decides its condition
abbrev pub DecidesEach : {C : Type 0} → (C → Bool) → (C → Type 0) → Type 0
DecidesEach {C} test Holds = (condition : C) → Decides (test condition) (Holds condition)
