-- What a party of a network took and sent in some life of its file, whatever crashes and openings came since.
use Rattle.std.specs.Prelude.{◌≡◌, ℕ, List, ◌∷◌, ◌++◌, All, Contains, length, Ok}
use Rattle.ar_message.specs.Filling.{nothing}
use Rattle.ar_message.specs.declared.unsigned.Blank.{Blank}
use Rattle.ar_message.specs.declared.unsigned.Unsigned.{Unsigned}
use Rattle.authority_core.specs.RollRows.{roll_row}
use Rattle.authority_keeper.specs.Inputs as authority_inputs
use Rattle.authority_keeper.specs.Keeping.{AuthorityStanding, answer_to}
use Rattle.kept_journal.specs.Replays.{ReachesBy}
use Rattle.kept_party.specs.Lives.{Lead, Life}
use Rattle.key_roll.specs.Book.{RollBook, texts_of}
use Rattle.key_roll.specs.Later.{IsServed}
use Rattle.log_core.specs.Row.{row}
use Rattle.log_core.specs.State.{Input, LogStep}
use Rattle.log_journal.specs.Steps.{LogStanding}

-- In a life of its file, which had these texts when it was opened, a party took this text where it stood so, behind those that it
-- answered before and in front of those that it answered since. The lives from then on lead to the texts that its file has now.
pub record TookOnce {S : Type 0} (takes : S → List ℕ → S → Type 0) (mark : List ℕ) (first before : S) (text : List ℕ) (now : List (List ℕ)) : Type 0 where
  pub texts : List (List ℕ)
  pub answered : List (List ℕ)
  pub since : List (List ℕ)
  pub left : List ℕ
  pub lives : List Life
  pub marked : length mark ≡ 8
  pub stood : ReachesBy takes first (texts ++ answered) before
  pub lead : Lead mark texts (record { answered = answered ++ (text ∷ since); left = left } ∷ lives) now

-- what a log that is asked this sends, before it is signed
abbrev pub LogSends : LogStanding → Input → Unsigned → Type 0
LogSends s input unsigned = (reply : LogStep) × ((row s.core input ≡ Ok reply) × (unsigned ≡ reply.unsigned))

-- the same of an authority, which then stands there
abbrev pub AuthoritySends : AuthorityStanding → authority_inputs.Input → AuthorityStanding → Unsigned → Type 0
AuthoritySends old (authority_inputs.takes bytes) new unsigned = answer_to old bytes ≡ Ok (new.state, unsigned)
AuthoritySends old (authority_inputs.rolls key) new unsigned = roll_row old.state key ≡ Ok (new.state, unsigned)
AuthoritySends old (authority_inputs.learns name key) new unsigned = unsigned ≡ nothing
AuthoritySends old (authority_inputs.forgets name key) new unsigned = unsigned ≡ nothing
AuthoritySends old authority_inputs.retires new unsigned = unsigned ≡ nothing

-- The statement of each signature that is due stands in the book, at the generation and leaf of the signature.
abbrev pub AreSignedIn : RollBook → Unsigned → Type 0
AreSignedIn book unsigned = All (λ (blank : Blank). IsServed book blank.due × Contains (texts_of book) blank.due.text) unsigned.blanks
