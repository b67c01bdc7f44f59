use Rattle.std.proofs.Common.{ℕ, List, ◌++◌}
use Rattle.sha2.specs.Hashers.{Holds256}
use Rattle.party_keys.specs.Directory.{role_keys}
use Rattle.table_map.specs.Digests.{texts_below}
use Rattle.table_map.proofs.digest.add_keys.Given as goal

-- the texts of the parties so far
abbrev pub invariant-loop-number : goal.invariant-loop-number
invariant-loop-number l =
    (m : List ℕ) → Holds256 l.fn.hasher m → Holds256 l.hasher (m ++ texts_below (role_keys l.directory l.role) l.number)
