-- The calls of an object in memory, which fails on demand.
use Rattle.std.specs.Prelude.{ℕ, List, Contains}
use Rattle.ar_base.specs.Faults.{one_more}

-- the numbers of the calls that fail, how many calls were made, and how many failed
pub record CallCount : Type 0 where
  pub fails : List ℕ
  pub made : ℕ
  pub faults : ℕ

-- the number of the next call: the first is 1, and no number passes the greatest count
abbrev pub call_number : CallCount → ℕ
call_number c = one_more c.made

-- the next call is one that is to fail
abbrev pub IsDue : CallCount → Type 0
IsDue c = Contains c.fails (call_number c)

-- the calls after one more, which did not fail
abbrev pub after_call : CallCount → CallCount
after_call c = record c { made = call_number c }

-- the calls after one more, which failed
abbrev pub after_failed_call : CallCount → CallCount
after_failed_call c = record c { made = call_number c; faults = one_more c.faults }
