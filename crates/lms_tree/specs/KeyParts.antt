-- What a contract sees of a key that signs: all else in it comes from these.
use Rattle.std.specs.Prelude.{ℕ, List}
use Rattle.lm_ots.specs.declared.ots_type.OtsType.{OtsType}
use Rattle.lms_tree.specs.declared.lms_type.LmsType.{LmsType}

-- the seed, and the types of the tree and of its one-time signatures
pub record KeyParts : Type 0 where
  pub seed : List ℕ
  pub lms : LmsType
  pub ots : OtsType
