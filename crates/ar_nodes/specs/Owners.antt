-- The key by which checks know an owner.
use Rattle.std.specs.Prelude.{ℕ, List}
use Rattle.lms_tree.specs.Key.{public_of}
use Rattle.lms_tree.specs.PublicKey.{key_text}
use Rattle.owner_core.specs.State.{Owner}

-- the key by which checks know an owner
abbrev pub known_key : Owner → List ℕ
known_key owner = key_text (public_of owner.key)
