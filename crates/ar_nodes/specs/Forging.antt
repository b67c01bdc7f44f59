-- What dishonest parties sign.
use Rattle.std.specs.Prelude.{ℕ, List, ◌++◌}
use Rattle.std.specs.Int.{w32}
use Rattle.ar_bytes.specs.RoundTrip.{number_text}
use Rattle.lms_tree.specs.Key.{signature_of}
use Rattle.ar_nodes.specs.Parties.{Forger}

-- a signature of a dishonest party's: generation 0, and its key's signature by its next leaf
abbrev pub forged : Forger → List ℕ → List ℕ
forged forger text = number_text w32 0 ++ signature_of forger.key forger.next text
