use Rattle.std.proofs.Common.{ℕ, ◌<◌, get_or}
use Rattle.ar_base.specs.Bytes.{IsDigest}
use Rattle.hash_tree.specs.Entries.{Entry}
use Rattle.hash_tree.proofs.roots.read_keys.Given as goal

abbrev pub invariant-loop-key : goal.invariant-loop-key
invariant-loop-key l = (k : ℕ) (d : Entry) → k < l.key-index → IsDigest (get_or l.entries k d).0
