-- What an owner of domains keeps.
use Rattle.std.specs.Prelude.{ℕ, List}
use Rattle.ar_cert.specs.Changes.{Change}
use Rattle.lms_tree.specs.KeyParts.{KeyParts}
use Rattle.party_keys.specs.Directory.{Directory}
use Rattle.sign_book.specs.Book.{Book}

-- Its number, the keys of logs and authorities that it knows, the key that signs, the statements which the key's
-- leaves serve, and its drafts in the order in which they began: certificates with what vouches for each so far.
pub record Owner : Type 0 where
  pub number : ℕ
  pub directory : Directory
  pub key : KeyParts
  pub book : Book
  pub drafts : List Change
