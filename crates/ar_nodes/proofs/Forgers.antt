-- The leaves by which dishonest parties sign.
use Rattle.std.proofs.Common.{ℕ, ◌+◌, ◌<◌, ◌^◌, arith}
use Rattle.lms_tree.specs.KeyParts.{KeyParts}
use Rattle.lms_tree.proofs.NodeLemmas.{pow-height_of-le}
use Rattle.lms_tree.specs.LmsKind.{leaves_of}

-- the number of each leaf is below that of leaves, which u32 has
pub leaves-fit : (key : KeyParts) (next : ℕ) → next < leaves_of key.lms → next + 1 < 2 ^ 32
leaves-fit key next less = omega (arith, pow-height_of-le key.lms)

pub ruleset leaf_laws = (leaves-fit)
