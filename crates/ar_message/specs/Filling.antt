-- What a step sends before it is signed, and what signing makes of it. Where a signature is due the message has
-- zero bytes, a blank, and signing writes the signature over them.
use Rattle.std.specs.Prelude.{◌≡◌, ◌≢◌, ℕ, ◌+◌, ◌<◌, ◌≤◌, ◌⊎◌, List, [], ◌∷◌, ◌++◌, take, drop, map, length, replicate, slice_get, slice_index, slice_index_or, slice_set, Option, Some, None, All}
use Rattle.key_roll.specs.Due.{DueParts}
use Rattle.key_roll.specs.Ring.{Owes, signature_by}
use Rattle.lms_tree.specs.KeyParts.{KeyParts}
use Rattle.ar_message.specs.declared.unsigned.Blank.{Blank}
use Rattle.ar_message.specs.declared.unsigned.Unsigned.{Unsigned}
use Rattle.ar_message.specs.declared.sent.Sent.{Sent}
use Rattle.ar_message.specs.declared.address.Address.TheVariants.{Logs}
use Rattle.ar_message.specs.Sending.{Letter}

-- so many zero bytes, in place of a signature
abbrev pub zeros : ℕ → List ℕ
zeros len = replicate len 0

-- no message is sent and no signature is due; this epoch ended, where one did
abbrev pub only_ended : Option (ℕ × Option (List ℕ)) → Unsigned
only_ended ended = record { sent = record { messages = []; ended = ended }; blanks = [] }

-- nothing is sent, no epoch ended, and no signature is due
abbrev pub nothing : Unsigned
nothing = only_ended None

-- bytes with others written over them from a place on
abbrev pub written_at : ℕ → List ℕ → List ℕ → List ℕ
written_at place bytes whole = take place whole ++ (bytes ++ drop (place + length bytes) whole)

-- the signature that is due, by the key of its generation
abbrev pub signature_under : Option KeyParts → DueParts → List ℕ
signature_under (Some key) due = signature_by key due
signature_under None due = []

-- the signature that is due under the keys of each generation
abbrev pub signature_due : List KeyParts → DueParts → List ℕ
signature_due keys due = signature_under (slice_get keys due.generation) due

-- a message with the signature of a blank in it
abbrev pub with_signature : List KeyParts → Blank → Letter → Letter
with_signature keys blank letter = record { to = letter.to; bytes = written_at blank.at (signature_due keys blank.due) letter.bytes }

-- messages in which this one, where there is one, has the signature of the blank
abbrev pub signed_in : List KeyParts → Blank → List Letter → Option Letter → List Letter
signed_in keys blank letters (Some letter) = slice_set letters blank.message (with_signature keys blank letter)
signed_in keys blank letters None = letters

-- the messages with the signature of one blank in them
abbrev pub signed_at : List KeyParts → Blank → List Letter → List Letter
signed_at keys blank letters = signed_in keys blank letters (slice_get letters blank.message)

-- the messages with the signatures of all blanks in them
unfoldable pub signed : List KeyParts → List Blank → List Letter → List Letter
signed keys [] letters = letters
signed keys (blank ∷ blanks) letters = signed_at keys blank (signed keys blanks letters)

-- what is sent where each blank is signed
abbrev pub filled : List KeyParts → Unsigned → Sent
filled keys unsigned = record { messages = signed keys unsigned.blanks unsigned.sent.messages; ended = unsigned.sent.ended }

-- how long the messages are
abbrev pub lengths : List Letter → List ℕ
lengths letters = map (λ l. length l.bytes) letters

-- the keys have the one that signs what is due, and its signature lies inside this many bytes from a place on
pub record FitsIn (keys : List KeyParts) (whole : ℕ) (place : ℕ) (due : DueParts) : Type 0 where
  pub len : ℕ
  pub owes : Owes keys due len
  pub inside : place + len ≤ whole

-- the same of these bytes
abbrev pub FitsAt : List KeyParts → List ℕ → ℕ → DueParts → Type 0
FitsAt keys bytes place due = FitsIn keys (length bytes) place due

-- a blank is one of a message of these lengths, and its signature lies inside that
pub record IsBlank (keys : List KeyParts) (lens : List ℕ) (blank : Blank) : Type 0 where
  pub whole : ℕ
  pub named : slice_get lens blank.message ≡ Some whole
  pub fits : FitsIn keys whole blank.at blank.due

-- each blank is one
abbrev pub CanFill : List KeyParts → Unsigned → Type 0
CanFill keys unsigned = All (IsBlank keys (lengths unsigned.sent.messages)) unsigned.blanks

-- ---- what is where

-- what stands in the place of a message that is not there
abbrev pub no_letter : Letter
no_letter = record { to = Logs; bytes = [] }

-- the bytes of a message, none where there is no such message
abbrev pub letter_bytes : List Letter → ℕ → List ℕ
letter_bytes letters message = (slice_index_or letters message no_letter).bytes

-- the byte at a place of a message
abbrev pub byte_at : List Letter → ℕ → ℕ → ℕ
byte_at letters message place = slice_index (letter_bytes letters message) place

-- in these messages the signature that is due stands in the place of the blank
abbrev pub IsSigned : List KeyParts → List Letter → Blank → Type 0
IsSigned keys letters blank =
    (j : ℕ) → j < length (signature_due keys blank.due) → byte_at letters blank.message (blank.at + j) ≡ slice_index (signature_due keys blank.due) j

-- a place of a message is none of a blank's
abbrev pub IsOutside : List KeyParts → ℕ → ℕ → Blank → Type 0
IsOutside keys message place blank =
    (blank.message ≢ message) ⊎ ((place < blank.at) ⊎ (blank.at + length (signature_due keys blank.due) ≤ place))

-- two blanks have no place in common
abbrev pub AreApart : List KeyParts → Blank → Blank → Type 0
AreApart keys one other =
    (one.message ≢ other.message)
    ⊎ ((one.at + length (signature_due keys one.due) ≤ other.at) ⊎ (other.at + length (signature_due keys other.due) ≤ one.at))
