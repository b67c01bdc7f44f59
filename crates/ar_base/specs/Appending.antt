-- What it is that a call appends a text to a vector.
use Rattle.std.specs.Prelude.{◌≡◌, ℕ, ◌+◌, ◌<◌, ◌≤◌, List, ◌++◌, length, Result, Vec, vec_len, vec_capacity, OnOk, OnErr}
use Rattle.std.specs.declared.alloc.AllocError.{AllocError}

-- The call appended the text, or memory ran out, which it cannot where there is room for the text. Then
-- a part of it may be appended.
pub record Appends {Z : Type 0} (text : List ℕ) (old new : Vec ℕ Z) (result : Result (Unit {0}) AllocError) : Type 0 where
  pub ok : OnOk result (new.items ≡ old.items ++ text)
  pub len : OnOk result (vec_len new ≡ vec_len old + length text)
  pub part : OnErr result ((rest : List ℕ) × (new.items ≡ old.items ++ rest))
  pub full : OnErr result (vec_capacity old < vec_len old + length text)
  pub capacity : vec_capacity old ≤ vec_capacity new
