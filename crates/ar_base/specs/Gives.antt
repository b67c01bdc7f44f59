-- The answer of a call: the one that its definition gives, or, where the call takes memory, want of memory.
use Rattle.std.specs.Prelude.{◌≡◌, ◌⊎◌, Result, Ok, Err, IsOk}
use Rattle.std.specs.Result.{result_map_both}

-- the same value, or the error that stands for this one
abbrev pub with_error : {T E F : Type 0} → (E → F) → Result T E → Result T F
with_error error_of result = result_map_both (λ value. value) error_of result

-- The call returned what was expected. What a contract sees of the value in an `Ok` is `view` of it.
abbrev pub Gives : {T V E : Type 0} → (T → V) → Result T E → Result V E → Type 0
Gives view (Ok value) expected = expected ≡ Ok (view value)
Gives view (Err error) expected = expected ≡ Err error

-- The call returned what was expected, or `memory`, the one answer that no definition gives.
abbrev pub GivesUnless : {T V E : Type 0} → E → (T → V) → Result T E → Result V E → Type 0
GivesUnless memory view (Ok value) expected = expected ≡ Ok (view value)
GivesUnless memory view (Err error) expected = (error ≡ memory) ⊎ (expected ≡ Err error)

-- The same, where memory is taken only for a value: want of memory never stands in a refusal's place.
abbrev pub GivesOrWants : {T V E : Type 0} → E → (T → V) → Result T E → Result V E → Type 0
GivesOrWants memory view (Ok value) expected = expected ≡ Ok (view value)
GivesOrWants memory view (Err error) expected = ((error ≡ memory) × IsOk expected) ⊎ (expected ≡ Err error)

-- The call took a step: the state behind it and what it returned make, together, what was expected. Or it
-- returned the error that was expected, or `memory`, and the state is as before.
abbrev pub StepsUnless : {S T V E : Type 0} → E → (S → T → V) → Result T E → S → S → Result V E → Type 0
StepsUnless memory made (Ok value) old new expected = expected ≡ Ok (made new value)
StepsUnless memory made (Err error) old new expected = (new ≡ old) × ((error ≡ memory) ⊎ (expected ≡ Err error))
