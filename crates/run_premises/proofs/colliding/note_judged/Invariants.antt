-- The strings of what is behind this place are noted.
use Rattle.std.proofs.Common.{◌≤◌, ◌++◌, List, ℕ, length, drop}
use Rattle.std.specs.Prelude.{flat_map}
use Rattle.hashed_strings.specs.Index.{AreNoted}
use Rattle.hashed_strings.specs.Judged.{strings_in}
use Rattle.run_premises.proofs.colliding.note_judged.Given as goal

abbrev pub invariant-loop-i : goal.invariant-loop-i
invariant-loop-i l =
    ((others : List (List ℕ)) → AreNoted l.initial.noted others → AreNoted l.noted (flat_map (λ t. strings_in t.bytes) (drop l.i l.judged) ++ others))
    × (l.i ≤ length l.judged)

abbrev pub decreases-loop-i : goal.decreases-loop-i
decreases-loop-i l = l.i
