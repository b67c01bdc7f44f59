-- That a message has zero bytes in each place at which a signature of the log's own is due, and that no two of these places
-- have a byte in common.
use Rattle.std.specs.Prelude.{◌≡◌, ◌≢◌, ◌⊎◌, ℕ, ◌+◌, ◌≤◌, List, [], ◌∷◌, ◌++◌, length, slice_get, Some}
use Rattle.std.specs.List.{AllByRecursion}
use Rattle.ar_message.specs.Messages.{message_text}
use Rattle.ar_message.specs.Sending.{Letter}
use Rattle.ar_message.specs.declared.unsigned.Blank.{Blank}
use Rattle.ar_message.specs.Filling.{zeros}
use Rattle.log_sending.specs.Sending.{DraftMessage, SigningPlace}

-- these bytes stand at a place of others
pub record StandsAt (part : List ℕ) (at : ℕ) (whole : List ℕ) : Type 0 where
  pub front : List ℕ
  pub back : List ℕ
  pub is : whole ≡ front ++ (part ++ back)
  pub place : length front ≡ at

-- places of so many bytes each lie one behind the other, the first at a place of a message or behind it, and the last in front
-- of another one
abbrev pub LieBetween : ℕ → ℕ → ℕ → List SigningPlace → Type 0
LieBetween len from upto [] = from ≤ upto
LieBetween len from upto (place ∷ places) = (from ≤ place.at) × LieBetween len (place.at + len) upto places

-- so many zero bytes stand at each place of a draft, and the places lie one behind the other
pub record IsDraft (len : ℕ) (draft : DraftMessage) : Type 0 where
  pub zero_bytes : AllByRecursion (λ place. StandsAt (zeros len) place.at (message_text draft.message)) draft.own
  pub behind : LieBetween len 0 (length (message_text draft.message)) draft.own

-- a blank is one of these messages, and so many zero bytes stand there
pub record IsZero (len : ℕ) (letters : List Letter) (blank : Blank) : Type 0 where
  pub letter : Letter
  pub named : slice_get letters blank.message ≡ Some letter
  pub zero_bytes : StandsAt (zeros len) blank.at letter.bytes

-- a blank of so many bytes has none of them in common with another: that is of another message, or lies behind it
abbrev pub LiesBefore : ℕ → Blank → Blank → Type 0
LiesBefore len one other = (one.message ≢ other.message) ⊎ (one.at + len ≤ other.at)
