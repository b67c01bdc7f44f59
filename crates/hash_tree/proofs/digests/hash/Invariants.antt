use Rattle.std.proofs.Common.{◌≡◌, ◌<◌}
use Rattle.sha2.specs.Sha256.{sha256}
use Rattle.hash_tree.proofs.digests.hash.Given as goal

abbrev pub invariant-loop-2 : goal.invariant-loop-2
invariant-loop-2 l = 0 < l.counter → l.digest ≡ sha256 l.bytes

abbrev pub invariant-loop : goal.invariant-loop
invariant-loop l = 0 < l.counter → l.digest ≡ sha256 l.bytes
