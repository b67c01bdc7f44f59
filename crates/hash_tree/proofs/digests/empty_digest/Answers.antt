use Rattle.std.proofs.Common.{refl}
use Rattle.sha2.specs.Sha256.{sha256, hash_after, compress, digest_bytes, schedule, rounds, first_words}
use Rattle.hash_tree.proofs.digests.empty_digest.Goals as goal

-- the definition is computed on this one string
pub returns : goal.returns
unfolding sha256 hash_after compress digest_bytes schedule rounds first_words
returns c = refl
