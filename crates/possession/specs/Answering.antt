-- A server that answers challenges, as contracts see it, and what it signs.
use Rattle.std.specs.Prelude.{ℕ, List}
use Rattle.ar_statement.specs.Claims.{answer, handover, text_of}
use Rattle.leaf_book.specs.Book.{LeafBookParts}
use Rattle.lms_tree.specs.KeyParts.{KeyParts}

-- the book of the key's leaves, the key, the name that is served, and the digest of its certificate
pub record Server : Type 0 where
  pub book : LeafBookParts
  pub key : KeyParts
  pub name : List ℕ
  pub certificate : List ℕ

-- the text that is signed for a challenge: that who has the key of the name's certificate answers it
unfoldable pub answer_text : List ℕ → List ℕ → List ℕ → List ℕ
answer_text name certificate challenge = text_of (answer name certificate challenge)

-- the text that is signed to hand the name over to the certificate with this digest
unfoldable pub handover_text : List ℕ → List ℕ
handover_text digest = text_of (handover digest)
