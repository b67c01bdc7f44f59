-- Sets of log numbers. A log counts once, however often its number stands in a list.
use Rattle.std.specs.Prelude.{ℕ, List}
use Rattle.std.specs.Ordering.{nat_cmp}
use Rattle.std.specs.FinSet.{FinSet, from_list, intersection, len}

-- a set of numbers
abbrev pub Numbers : Type 0
Numbers = FinSet nat_cmp

-- the set of the numbers in a list
abbrev pub set_of : List ℕ → Numbers
set_of numbers = from_list numbers

-- how many distinct numbers a list has
abbrev pub distinct_count : List ℕ → ℕ
distinct_count numbers = len (set_of numbers)

-- how many distinct numbers stand in both lists
abbrev pub shared_count : List ℕ → List ℕ → ℕ
shared_count numbers others = len (intersection (set_of numbers) (set_of others))
