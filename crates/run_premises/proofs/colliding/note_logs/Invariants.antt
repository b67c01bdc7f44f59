-- The strings of the logs so far are noted.
use Rattle.std.proofs.Common.{◌++◌, List, ℕ}
use Rattle.std.specs.Prelude.{flat_map}
use Rattle.ar_safety.specs.Hashed.{tables_below}
use Rattle.ar_safety.specs.Held.{records_of}
use Rattle.domain_table.specs.Tree.{table_strings}
use Rattle.hashed_strings.specs.Index.{AreNoted}
use Rattle.run_premises.proofs.colliding.note_logs.Given as goal

abbrev pub invariant-loop-number : goal.invariant-loop-number
invariant-loop-number l = (others : List (List ℕ)) → AreNoted l.initial.noted others → AreNoted l.noted (flat_map table_strings (tables_below (records_of l.records) l.number) ++ others)
