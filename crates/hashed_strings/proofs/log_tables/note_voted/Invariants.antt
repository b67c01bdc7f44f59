-- The strings of the votes from here on are noted.
use Rattle.std.proofs.Common.{◌≤◌, ◌++◌, List, ℕ, length, drop}
use Rattle.std.specs.Prelude.{flat_map}
use Rattle.std.specs.List.{filter_map}
use Rattle.ar_safety.specs.Hashed.{voted_table}
use Rattle.domain_table.specs.Tree.{table_strings}
use Rattle.hashed_strings.specs.Index.{AreNoted}
use Rattle.hashed_strings.proofs.log_tables.note_voted.Given as goal

abbrev pub invariant-loop-i : goal.invariant-loop-i
invariant-loop-i l =
    ((others : List (List ℕ)) → AreNoted l.initial.noted others → AreNoted l.noted (flat_map table_strings (filter_map (voted_table l.ended) (drop l.i l.voted)) ++ others))
    × (l.i ≤ length l.voted)

abbrev pub decreases-loop-i : goal.decreases-loop-i
decreases-loop-i l = l.i
