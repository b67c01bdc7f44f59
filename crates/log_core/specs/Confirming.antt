-- The row of ConfirmAsk: the log confirms what a name has behind the newest decided epoch.
use Rattle.std.specs.Prelude.{ℕ, ◌+◌, ◌-◌, List, [], ◌∷◌, ◌++◌, length, Option, Some, None, Result, Ok}
use Rattle.ar_message.specs.Messages.{message_text}
use Rattle.ar_message.specs.declared.address.Address.TheVariants.{One}
use Rattle.ar_message.specs.declared.message.Confirming.{Confirming}
use Rattle.ar_message.specs.declared.message.Message.TheVariants.{LogConfirmed}
use Rattle.ar_message.specs.Filling.{nothing, zeros}
use Rattle.ar_council.specs.Values.{vote_claim}
use Rattle.epoch_log.specs.Calls.{after_confirm, confirmation_text}
use Rattle.epoch_log.specs.State.{LogState, newest_value, table_of}
use Rattle.ar_statement.specs.Claims.{authority_party, text_of}
use Rattle.epoch_log.specs.declared.entries.Newest.{Newest}
use Rattle.log_sending.specs.Checks.{Check, has_decision, leaves_left}
use Rattle.log_core.specs.Steps.{given}
use Rattle.log_core.specs.Replies.{open_reply}
use Rattle.log_sending.specs.Showing.{body_in}
use Rattle.log_sending.specs.Sending.{Composed, DraftMessage, SigningPlace, none_composed, own_votes, place_for, sent_votes, with_draft}
use Rattle.log_sending.specs.Signers.{known}
use Rattle.log_core.specs.State.{LogAnswer, CoreState, LogStep}
use Rattle.log_sending.specs.declared.refusal.LogRefusal.{LogRefusal}

-- what a client asks: to confirm a name, by two authorities of the client's choice
pub record ConfirmQuestion : Type 0 where
  pub client : ℕ
  pub name : List ℕ
  pub first : ℕ
  pub second : ℕ

-- ---- the message

-- the confirmation, with the votes of the decision
abbrev pub confirming_of : CoreState → Newest → ConfirmQuestion → Confirming
confirming_of s w asked = record {
  client = asked.client;
  epoch = w.epoch;
  name = asked.name;
  root = w.root;
  base = w.base;
  body = body_in (table_of s.log) asked.name;
  votes = sent_votes s.signature_len w.votes;
  log = s.log.me;
  signature = zeros s.signature_len;
  first = asked.first;
  second = asked.second;
}

-- the log's own vote for the newest decision
abbrev pub newest_vote_text : LogState → Newest → List ℕ
newest_vote_text s w = text_of (vote_claim s.me w.epoch (newest_value w))

-- how many bytes it has
abbrev pub confirmed_len : CoreState → Newest → ConfirmQuestion → ℕ
confirmed_len s w asked = length (message_text (LogConfirmed (confirming_of s w asked)))

-- Where its signatures are due, in a message of so many bytes. Behind the votes stand the log's number, its signature
-- behind two bytes, and the numbers of the authorities; where its own ballot was counted at once, that signature is due too.
abbrev pub confirmed_places : CoreState → Newest → List ℕ → ℕ → List SigningPlace
confirmed_places s w name len =
    own_votes s.signature_len (newest_vote_text s.log w) (len - (s.signature_len + 8)) w.votes
    ++ place_for (len - (s.signature_len + 4)) (confirmation_text s.log w name) ∷ []

-- the message to the first authority
abbrev pub confirmed_draft : CoreState → Newest → ConfirmQuestion → DraftMessage
confirmed_draft s w asked = record {
  to = One (authority_party asked.first);
  message = LogConfirmed (confirming_of s w asked);
  own = confirmed_places s w asked.name (confirmed_len s w asked);
}

-- ---- the row

-- there is a leaf for the confirmation of the newest decision
abbrev pub leaf_to_confirm : CoreState → Option Newest → List ℕ → Check
leaf_to_confirm s None name = Ok tt
leaf_to_confirm s (Some w) name = leaves_left s.log.past.signed (confirmation_text s.log w name ∷ [])

-- the first and then the second authority is known, an epoch is decided, and there is a leaf
abbrev pub confirm_checks : CoreState → ConfirmQuestion → List Check
confirm_checks s asked =
    known s.keys (authority_party asked.first ∷ authority_party asked.second ∷ [])
    ∷ has_decision s.log s.log.newest
    ∷ leaf_to_confirm s s.log.newest asked.name
    ∷ []

-- by the newest decision the log confirms what the name has
abbrev pub confirm_reply : CoreState → Option Newest → ConfirmQuestion → LogStep
confirm_reply s None asked = record { unsigned = nothing; after = s }
confirm_reply s (Some w) asked = open_reply s (after_confirm s.log w asked.name) (confirmed_draft s w asked ∷ [])

unfoldable pub confirm_row : CoreState → ConfirmQuestion → LogAnswer
confirm_row s asked = given (confirm_checks s asked) (confirm_reply s s.log.newest asked)

-- ---- while it is composed

-- what is composed before the step, by the newest decision
abbrev pub confirmation_by : CoreState → Option Newest → ConfirmQuestion → Composed
confirmation_by s None asked = none_composed
confirmation_by s (Some w) asked = with_draft none_composed (confirmed_draft s w asked)

-- what is composed where the authorities are known and an epoch is decided
unfoldable pub confirmation_prepared : CoreState → ConfirmQuestion → Result Composed LogRefusal
confirmation_prepared s asked =
    given (known s.keys (authority_party asked.first ∷ authority_party asked.second ∷ []) ∷ has_decision s.log s.log.newest ∷ [])
    (confirmation_by s s.log.newest asked)
