-- The strings from here on are noted.
use Rattle.std.proofs.Common.{◌≤◌, ◌++◌, List, ℕ, length, drop}
use Rattle.hashed_strings.specs.Index.{AreNoted}
use Rattle.hashed_strings.proofs.noted.Noted.note_all.Given as goal

abbrev pub invariant-loop-i : goal.invariant-loop-i
invariant-loop-i l = ((others : List (List ℕ)) → AreNoted l.initial.self others → AreNoted l.self (drop l.i l.strings ++ others)) × (l.i ≤ length l.strings)

abbrev pub decreases-loop-i : goal.decreases-loop-i
decreases-loop-i l = l.i
