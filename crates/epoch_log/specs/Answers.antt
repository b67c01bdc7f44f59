-- What a vote and a confirmation answer, beside what each makes of where a log stands.
use Rattle.std.specs.Prelude.{ℕ, if◌then◌else◌, List, [], ◌∷◌, Result, Err}
use Rattle.std.specs.Result.{result_map_both}
use Rattle.ar_cert.specs.Changes.{Change}
use Rattle.ar_statement.specs.Claims.{text_of}
use Rattle.key_roll.specs.Book.{RollBook}
use Rattle.key_roll.specs.Due.{DueParts}
use Rattle.key_roll.specs.Entry.{entered}
use Rattle.ar_statement.specs.declared.fault.BookFault.{BookFault}
use Rattle.ar_statement.specs.declared.fault.BookFault.TheVariants.{Spent}
use Rattle.ar_council.specs.Room.{has_leaves}
use Rattle.vote_quorum.specs.declared.value.Value.{Value}
use Rattle.epoch_log.specs.Calls.{after_propose, after_state, confirmation_text, own_status_text, own_vote_text, propose_claim}
use Rattle.epoch_log.specs.State.{LogState}
use Rattle.epoch_log.specs.declared.entries.Closing.{Closing}
use Rattle.epoch_log.specs.declared.entries.Newest.{Newest}

-- ---- what calls answer

-- what `vote` answers: the vote's leaf, or that there is none
abbrev pub voted : LogState → Value → Result DueParts BookFault
voted s value = entered s.past.signed (own_vote_text s value)

-- what `confirm` answers: the confirmation's leaf, or that there is none
abbrev pub confirmed : LogState → Newest → List ℕ → Result DueParts BookFault
confirmed s w name = entered s.past.signed (confirmation_text s w name)

-- ---- what calls answer with which the epoch may end

-- the leaf of the first of two texts, or that there are not leaves for both
abbrev pub first_entered : RollBook → List ℕ → List ℕ → Result DueParts BookFault
first_entered book first second = if has_leaves book (first ∷ (second ∷ [])) then entered book first else Err Spent

-- what is signed, and beside it how the epoch goes on
abbrev pub beside : Closing → Result DueParts BookFault → Result (DueParts × Closing) BookFault
beside closing entered = result_map_both (λ due. (due, closing)) (λ fault. fault) entered

-- what `state` answers: the status's leaf and the closing rule's answer, or that there is no leaf
abbrev pub stated : LogState → Result (DueParts × Closing) BookFault
stated s = beside (after_state s).1 (entered s.past.signed (own_status_text s))

-- what `propose` answers: the proposal's leaf and the closing rule's answer, or that there are not leaves for the proposal
-- and the own vote
abbrev pub proposed : LogState → Value → List Change → Result (DueParts × Closing) BookFault
proposed s value changes =
    beside (after_propose s value changes).1 (first_entered s.past.signed (text_of (propose_claim s value)) (own_vote_text s value))
