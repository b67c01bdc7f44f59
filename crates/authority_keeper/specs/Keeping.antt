-- An authority that is kept: where it stands, and what it sends and becomes by a text of its journal.
use Rattle.std.specs.Prelude.{◌≡◌, ◌⊎◌, ℕ, List, [], ◌∷◌, ◌++◌, is_none, Option, None, Some, Ok, Err, if◌then◌else◌}
use Rattle.ar_message.specs.Filling.{nothing}
use Rattle.ar_message.specs.Messages.{message_in}
use Rattle.ar_message.specs.declared.sent.Sent.{Sent}
use Rattle.authority_core.specs.Calls.{fresh_authority}
use Rattle.authority_core.specs.RollRows.{roll_row}
use Rattle.authority_core.specs.Row.{asked_in, row}
use Rattle.authority_core.specs.State.{AuthorityAnswer, AuthorityState}
use Rattle.authority_core.specs.declared.entries.Approved.{Approved}
use Rattle.authority_core.specs.declared.keyless.AuthorityCore.{AuthorityCore}
use Rattle.authority_core.specs.declared.refusal.AuthorityRefusal.{AuthorityRefusal}
use Rattle.authority_core.specs.declared.refusal.AuthorityRefusal.TheVariants.{Memory}
use Rattle.kept_party.specs.declared.done.Done.{Done}
use Rattle.key_roll.specs.Ring.{IsNext, ring_signature_len}
use Rattle.keyed_core.specs.Signing.{KeyedParts, signed_answer}
use Rattle.lms_tree.specs.Key.{public_of}
use Rattle.lms_tree.specs.KeyParts.{KeyParts}
use Rattle.lms_tree.specs.LmsKind.{leaves_of}
use Rattle.owner_check.specs.Answers.{Booked}
use Rattle.owner_check.specs.Book.{has_pair, with_pair, without_pair}
use Rattle.owner_check.specs.declared.answer.Outcome.{Outcome}
use Rattle.owner_check.specs.declared.answer.Outcome.TheVariants.{No, Yes}
use Rattle.owner_check.specs.declared.pair.Pair.{Pair}
use Rattle.party_keys.specs.Directory.{Directory}
use Rattle.authority_keeper.specs.Checks.{book_of}
use Rattle.authority_keeper.specs.Inputs.{Input, forgets, input_in, input_text, learns, retires, rolls, takes as takes_message}
use Rattle.authority_keeper.specs.declared.order.AuthorityOrder.{AuthorityOrder}
use Rattle.authority_keeper.specs.declared.order.AuthorityOrder.TheVariants as orders
use Rattle.authority_keeper.specs.declared.refusal.AuthorityOrderRefusal.{AuthorityOrderRefusal}
use Rattle.authority_keeper.specs.declared.refusal.AuthorityOrderRefusal.TheVariants as refusals

-- where an authority stands, its key of each generation, and the book of its check, until it retires
pub record AuthorityStanding : Type 0 where
  pub state : AuthorityState
  pub keys : List KeyParts
  pub book : Option (List Pair)

-- that of an authority as a program has it, with a check by a book; what the check answered, and for how many more keys there is
-- room, are left out
abbrev pub standing_of : KeyedParts (AuthorityCore Booked) → AuthorityStanding
standing_of authority = record {
  state = authority.core.state;
  keys = authority.ring.keys;
  book = book_of authority.core.check;
}

-- that of the authority with this number that has done nothing yet; its check knows no owner
abbrev pub new_standing : ℕ → Directory → KeyParts → AuthorityStanding
new_standing number directory key = record {
  state = record { me = number; keys = directory; signature_len = ring_signature_len key; past = fresh_authority (leaves_of key.lms) };
  keys = key ∷ [];
  book = Some [];
}

-- what its check answers to a message: whether its book has the name with the key. Where nothing is asked, the row does not look at it.
abbrev pub says_to : Option (List Pair) → Option Approved → Outcome
says_to (Some book) (Some asked) = if has_pair book asked.name asked.key then Yes else No
says_to (Some book) None = No
says_to None asked = No

-- the row's answer to a message, by its book
abbrev pub answer_to : AuthorityStanding → List ℕ → AuthorityAnswer
answer_to party bytes = row party.state (is_none party.book) (message_in bytes) (says_to party.book (asked_in (message_in bytes)))

-- an answer, signed with these keys, is this, and leaves it so
abbrev pub Sends : List KeyParts → AuthorityAnswer → Sent → AuthorityState → Type 0
Sends keys answer sent after = signed_answer (λ a. a) keys answer ≡ Ok (after, sent)

-- It goes on to its next key, whose public key this is, and sends what the row of that says.
pub record Turns (old : AuthorityStanding) (key : KeyParts) (sent : Sent) (new : AuthorityStanding) : Type 0 where
  pub next : IsNext old.keys key
  pub answer : Sends (old.keys ++ key ∷ []) (roll_row old.state (public_of key)) sent new.state
  pub keys : new.keys ≡ old.keys ++ key ∷ []
  pub book : new.book ≡ old.book

-- its book is another one, and nothing is sent
pub record ChangesBook (old : AuthorityStanding) (book : List Pair) (after : Option (List Pair)) (sent : Sent) (new : AuthorityStanding) : Type 0 where
  pub had : old.book ≡ Some book
  pub is : new ≡ record old { book = after }
  pub silent : sent ≡ nothing.sent

-- By an input it sends this, and becomes this.
abbrev pub Steps : AuthorityStanding → Input → Sent → AuthorityStanding → Type 0
Steps old (takes_message bytes) sent new =
    Sends old.keys (answer_to old bytes) sent new.state × ((new.keys ≡ old.keys) × (new.book ≡ old.book))
Steps old (rolls key) sent new = (next : KeyParts) × ((key ≡ public_of next) × Turns old next sent new)
Steps old (learns name key) sent new = (book : List Pair) × ChangesBook old book (Some (with_pair book name key)) sent new
Steps old (forgets name key) sent new = (book : List Pair) × ChangesBook old book (Some (without_pair book name key)) sent new
Steps old retires sent new = (book : List Pair) × ChangesBook old book None sent new

-- it takes the input that a text says
pub record takes (old : AuthorityStanding) (text : List ℕ) (sent : Sent) (new : AuthorityStanding) : Type 0 where
  pub input : Input
  pub says : input_in text ≡ Some input
  pub steps : Steps old input sent new

-- what was done by an input has its text for the journal, and is what taking that makes
abbrev pub DoneBy : AuthorityStanding → Input → Done Sent → AuthorityStanding → Type 0
DoneBy old input done new = (done.text ≡ Some (input_text input)) × takes old (input_text input) done.reply new

-- the text of an order, where an authority stands so: of a roll that of one to its next key
abbrev pub says : AuthorityStanding → AuthorityOrder → List ℕ → Type 0
says party (orders.Take bytes) text = text ≡ input_text (takes_message bytes)
says party orders.Roll text = (next : KeyParts) × (IsNext party.keys next × (text ≡ input_text (rolls (public_of next))))
says party (orders.Learn name key) text = text ≡ input_text (learns name key)
says party (orders.Forget name key) text = text ≡ input_text (forgets name key)
says party orders.Retire text = text ≡ input_text retires

-- memory is wanting, or this answer refuses so
abbrev pub RefusesBy : (AuthorityRefusal → Type 0) → AuthorityOrderRefusal → Type 0
RefusesBy refuses (refusals.Authority refusal) = (refusal ≡ Memory) ⊎ refuses refusal
RefusesBy refuses refusals.Retired = ⊥

-- memory is wanting, or the authority has retired
abbrev pub RefusesLesson : Option (List Pair) → AuthorityOrderRefusal → Type 0
RefusesLesson book (refusals.Authority refusal) = refusal ≡ Memory
RefusesLesson book refusals.Retired = book ≡ None

-- a roll to its next key is refused so
abbrev pub RefusesRoll : AuthorityStanding → AuthorityOrderRefusal → Type 0
RefusesRoll party refusal =
    RefusesBy (λ r. (next : KeyParts) × (IsNext party.keys next × (roll_row party.state (public_of next) ≡ Err r))) refusal

-- how an order is refused, where an authority stands so
abbrev pub refuses : AuthorityStanding → AuthorityOrder → AuthorityOrderRefusal → Type 0
refuses party (orders.Take bytes) refusal = RefusesBy (λ r. answer_to party bytes ≡ Err r) refusal
refuses party orders.Roll refusal = RefusesRoll party refusal
refuses party (orders.Learn name key) refusal = RefusesLesson party.book refusal
refuses party (orders.Forget name key) refusal = RefusesLesson party.book refusal
refuses party orders.Retire refusal = RefusesLesson party.book refusal
