-- The keys of a party, one for each generation.
use Rattle.std.specs.Prelude.{◌≡◌, ℕ, ◌+◌, ◌-◌, ◌<◌, List, ◌∷◌, ◌++◌, length, slice_get, All, Some}
use Rattle.std.specs.Int.{w32}
use Rattle.sha2.specs.Sha256.{sha256}
use Rattle.ar_bytes.specs.RoundTrip.{number_text}
use Rattle.lms_tree.specs.Key.{public_of, signature_of}
use Rattle.lms_tree.specs.KeyParts.{KeyParts}
use Rattle.lms_tree.specs.LmsKind.{leaves_of}
use Rattle.lms_tree.specs.declared.public_key.LmsPublic.{LmsPublic}
use Rattle.lms_tree.specs.Signature.{lms_signature_len_of}
use Rattle.key_roll.specs.Book.{RollBook}
use Rattle.key_roll.specs.Due.{DueParts}

-- the secret of the next generation: H(0x54 || SEED)
unfoldable pub next_seed : List ℕ → List ℕ
next_seed seed = sha256 (0x54 ∷ seed)

-- the next key: of the same types, from the next secret
abbrev pub next_key : KeyParts → KeyParts
next_key key = record { seed = next_seed key.seed; lms = key.lms; ots = key.ots }

-- the key of each generation from 0 on, and for how many more there is room
pub record RingParts : Type 0 where
  pub keys : List KeyParts
  pub room : ℕ

-- there is a key of generation 0, and each later one is the next of the one before it
pub record IsRing (keys : List KeyParts) : Type 0 where
  pub some : 0 < length keys
  pub next : (g : ℕ) (key later : KeyParts) → slice_get keys g ≡ Some key → slice_get keys (g + 1) ≡ Some later → later ≡ next_key key

-- a key is the next one of the keys
pub record IsNext (keys : List KeyParts) (key : KeyParts) : Type 0 where
  pub newest : KeyParts
  pub last : slice_get keys (length keys - 1) ≡ Some newest
  pub is : key ≡ next_key newest

-- a public key is that of the next one of the keys
pub record IsOfNext (keys : List KeyParts) (public : LmsPublic) : Type 0 where
  pub next : KeyParts
  pub is_next : IsNext keys next
  pub is : public ≡ public_of next

-- a public key is that of the newest of the keys
pub record IsNewest (keys : List KeyParts) (public : LmsPublic) : Type 0 where
  pub key : KeyParts
  pub last : slice_get keys (length keys - 1) ≡ Some key
  pub is : public ≡ public_of key

-- how many bytes a signature by a key has, with the generation in front
abbrev pub ring_signature_len : KeyParts → ℕ
ring_signature_len key = 4 + lms_signature_len_of key.lms key.ots

-- The keys are those of a book: one for each generation up to its newest, each with as many leaves as the book says, and a
-- signature of so many bytes.
pub record AreKeysOf (book : RollBook) (len : ℕ) (keys : List KeyParts) : Type 0 where
  pub many : length keys ≡ book.newest + 1
  pub leaves : All (λ key. book.leaves ≡ leaves_of key.lms) keys
  pub bytes : All (λ key. len ≡ ring_signature_len key) keys

-- the keys have the one that owes a signature, with the leaves that its book counts on, and this many bytes
-- are those of its signature behind a generation
pub record Owes (keys : List KeyParts) (due : DueParts) (bytes : ℕ) : Type 0 where
  pub key : KeyParts
  pub has : slice_get keys due.generation ≡ Some key
  pub leaves : due.leaves ≡ leaves_of key.lms
  pub bytes_are : bytes ≡ ring_signature_len key

-- a signature of a log or an authority: the generation, and the signature by its key
abbrev pub signature_by : KeyParts → DueParts → List ℕ
signature_by key due = number_text w32 due.generation ++ signature_of key due.leaf due.text
