-- What a step sends. Where a signature of the log's own is due a message has zero bytes, and a blank tells what is signed
-- there.
use Rattle.std.specs.Prelude.{ℕ, ◌+◌, ◌-◌, Bool, true, false, List, [], ◌∷◌, ◌++◌, length, flat_map, fold, map, Option, Some, None, is_none, unwrap_or}
use Rattle.key_roll.specs.Book.{RollBook}
use Rattle.key_roll.specs.Due.{DueParts}
use Rattle.key_roll.specs.Entry.{due_of}
use Rattle.ar_message.specs.Lists.{status_text, vote_text}
use Rattle.ar_message.specs.Messages.{message_text}
use Rattle.ar_message.specs.Sending.{Letter}
use Rattle.ar_message.specs.declared.address.Address.{Address}
use Rattle.ar_message.specs.declared.lists.LogStatus.{LogStatus}
use Rattle.ar_message.specs.declared.lists.Vote.{Vote}
use Rattle.ar_message.specs.declared.message.Message.{Message}
use Rattle.ar_message.specs.declared.unsigned.Blank.{Blank}
use Rattle.ar_message.specs.declared.unsigned.Unsigned.{Unsigned}
use Rattle.ar_message.specs.Filling.{zeros}
use Rattle.epoch_log.specs.State.{CountedStatus}

-- ---- drafts

-- a place in a message, from its first byte on, at which the log signs this text
pub record SigningPlace : Type 0 where
  pub at : ℕ
  pub text : List ℕ

-- this place, and this text
abbrev pub place_for : ℕ → List ℕ → SigningPlace
place_for at text = record { at = at; text = text }

-- to whom a message goes, what it says with zero bytes for the log's own signatures, and where these are due
pub record DraftMessage : Type 0 where
  pub to : Address
  pub message : Message
  pub own : List SigningPlace

-- a message with one signature of the log's own, which has so many bytes and stands in front of so many
abbrev pub draft_with : Address → Message → ℕ → ℕ → List ℕ → DraftMessage
draft_with to message len behind text =
    record { to = to; message = message; own = place_for (length (message_text message) - (len + behind)) text ∷ [] }

-- ---- what is sent

abbrev pub sent_letter : DraftMessage → Letter
sent_letter draft = record { to = draft.to; bytes = message_text draft.message }

-- the blank of a place, by what is due for its text
abbrev pub blanks_by : Option DueParts → ℕ → SigningPlace → List Blank
blanks_by None number place = []
blanks_by (Some due) number place = record { message = number; at = place.at; due = due } ∷ []

-- the blanks of drafts, the first of which is the message with this number
abbrev pub blanks_from : RollBook → ℕ → List DraftMessage → List Blank
blanks_from book number [] = []
blanks_from book number (draft ∷ drafts) =
    flat_map (λ place. blanks_by (due_of book place.text) number place) draft.own ++ blanks_from book (number + 1) drafts

-- these drafts, with the leaves that the book has for their signatures, and the epoch that ended
abbrev pub unsigned_of : RollBook → List DraftMessage → Option (ℕ × Option (List ℕ)) → Unsigned
unsigned_of book drafts ended = record { sent = record { messages = map sent_letter drafts; ended = ended }; blanks = blanks_from book 0 drafts }

-- ---- while it is composed

-- the letters so far, and the places where signatures are due, each with the number of its letter
pub record Composed : Type 0 where
  pub letters : List Letter
  pub places : List (ℕ × SigningPlace)

-- none yet
abbrev pub none_composed : Composed
none_composed = record { letters = []; places = [] }

-- one more draft
abbrev pub with_draft : Composed → DraftMessage → Composed
with_draft c draft = record {
  letters = c.letters ++ sent_letter draft ∷ [];
  places = c.places ++ map (λ place. (length c.letters, place)) draft.own;
}

-- more drafts, one behind the other
abbrev pub with_drafts : Composed → List DraftMessage → Composed
with_drafts c drafts = fold with_draft c drafts

-- the blanks of places, with the leaves that the book has for them
unfoldable pub blanks_in : RollBook → List (ℕ × SigningPlace) → List Blank
blanks_in book places = flat_map (λ p. blanks_by (due_of book p.1.text) p.0 p.1) places

-- what was composed, with its blanks and the epoch that ended
abbrev pub sealed : RollBook → Composed → Option (ℕ × Option (List ℕ)) → Unsigned
sealed book c ended = record { sent = record { messages = c.letters; ended = ended }; blanks = blanks_in book c.places }

-- ---- lists with a signature of the log's own among others

-- a vote as it is sent: zero bytes stand for the log's own signature
abbrev pub sent_vote : ℕ → ℕ × Option (List ℕ) → Vote
sent_vote len v = record { log = v.0; signature = unwrap_or v.1 (zeros len) }

abbrev pub sent_votes : ℕ → List (ℕ × Option (List ℕ)) → List Vote
sent_votes len votes = map (sent_vote len) votes

-- a status as it is sent
abbrev pub sent_status : ℕ → CountedStatus → LogStatus
sent_status len s = record { log = s.0; value = s.1; signature = unwrap_or s.2 (zeros len) }

abbrev pub sent_statuses : ℕ → List CountedStatus → List LogStatus
sent_statuses len statuses = map (sent_status len) statuses

-- the place of an entry, where it is one of the log's own
abbrev pub if_own : Bool → SigningPlace → List SigningPlace
if_own true place = place ∷ []
if_own false place = []

-- the places of the entries without a signature of their own, in a list whose first entry begins at this place: each
-- signature, of so many bytes, is the end of its entry
abbrev pub own_places : {A : Type 0} → (A → Bool) → (A → ℕ) → ℕ → List ℕ → ℕ → List A → List SigningPlace
own_places is_own size len text at [] = []
own_places is_own size len text at (x ∷ xs) =
    if_own (is_own x) (place_for (at + size x - len) text) ++ own_places is_own size len text (at + size x) xs

-- the same in votes and in statuses that are the end of a message with so many bytes
abbrev pub own_votes : ℕ → List ℕ → ℕ → List (ℕ × Option (List ℕ)) → List SigningPlace
own_votes len text end votes =
    own_places (λ v. is_none v.1) (λ v. length (vote_text (sent_vote len v))) len text
    (end - length (flat_map vote_text (sent_votes len votes))) votes

abbrev pub own_statuses : ℕ → List ℕ → ℕ → List CountedStatus → List SigningPlace
own_statuses len text end statuses =
    own_places (λ s. is_none s.2) (λ s. length (status_text (sent_status len s))) len text
    (end - length (flat_map status_text (sent_statuses len statuses))) statuses
