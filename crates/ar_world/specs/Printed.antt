-- What the printed lines tell of the pool.
use Rattle.std.specs.Prelude.{◌≡◌, ◌+◌, Bool, false, true, List, [], ◌++◌, filter, length, map}
use Rattle.report_text.specs.declared.happening.Happening.{Happening}
use Rattle.report_text.specs.declared.happening.Happening.TheVariants.{Entered}
use Rattle.ar_nodes.specs.Pool.{Pooled, entries_from}
use Rattle.ar_world.specs.State.{Moved}

-- a message as it came, before it was delivered to anyone
abbrev pub as_it_came : Pooled → Pooled
as_it_came p = record p { delivered = [] }

-- a line tells that a message enters the pool
abbrev pub is_entry : Happening → Bool
is_entry (Entered message kind from to length digest) = true
is_entry _ = false

-- the lines that do
abbrev pub entries_in : List Happening → List Happening
entries_in said = filter is_entry said

-- What is printed tells what the pool has more: the messages that were there stay as they came, behind them stand those that
-- are printed, each with its number, in order, and no others.
pub record TellsPool (old new : List Pooled) (said : List Happening) : Type 0 where
  pub more : List Pooled
  pub grown : map as_it_came new ≡ map as_it_came old ++ map as_it_came more
  pub told : entries_in said ≡ entries_from (length old + 1) more

-- the same of what a line comes to
abbrev pub TellsMoved : List Pooled → Moved → Type 0
TellsMoved old made = TellsPool old made.0.pool made.1
