-- The digest of a directory: of the size of its quorum, how many logs and authorities it has, and the first key of each.
use Rattle.std.specs.Prelude.{◌≡◌, ℕ, zero, suc, List, [], ◌∷◌, ◌++◌, length, slice_get, All}
use Rattle.sha2.specs.Sha256.{sha256}
use Rattle.lms_tree.specs.PublicKey.{HasWidths, key_text}
use Rattle.lms_tree.specs.declared.public_key.LmsPublic.{LmsPublic}
use Rattle.ar_statement.specs.declared.party.Party.{Party}
use Rattle.party_keys.specs.Directory.{Directory, keys_at, keys_of}

-- the text of a party's first key, of its keys
abbrev pub first_text : List LmsPublic → List ℕ
first_text [] = []
first_text (key ∷ keys) = key_text key

-- the texts of the first keys of the parties below a number, one behind the other
unfoldable pub texts_below : List (List LmsPublic) → ℕ → List ℕ
texts_below lists zero = []
texts_below lists (suc number) = texts_below lists number ++ first_text (keys_at lists number)

-- those of all parties of a role
abbrev pub first_texts : List (List LmsPublic) → List ℕ
first_texts lists = texts_below lists (length lists)

-- the text of a directory
abbrev pub directory_text : Directory → List ℕ
directory_text keys = keys.quorum ∷ (length keys.logs ∷ (length keys.authorities ∷ (first_texts keys.logs ++ first_texts keys.authorities)))

-- the string that is hashed for it
abbrev pub directory_string : Directory → List ℕ
directory_string keys = 0x05 ∷ directory_text keys

-- its digest, which is the value of its table in the tree of a map
unfoldable pub directory_digest : Directory → List ℕ
directory_digest keys = sha256 (directory_string keys)

-- the keys are as wide as in a program, so that each text has 56 bytes
abbrev pub AreWide : List (List LmsPublic) → Type 0
AreWide lists = All (λ keys. All HasWidths keys) lists

-- two directories are one in what they began with: the size of a quorum, how many parties there are, and the first key of each
pub record OneDirectory (keys others : Directory) : Type 0 where
  pub quorum : keys.quorum ≡ others.quorum
  pub logs : length keys.logs ≡ length others.logs
  pub authorities : length keys.authorities ≡ length others.authorities
  pub first : (party : Party) → slice_get (keys_of keys party) 0 ≡ slice_get (keys_of others party) 0
