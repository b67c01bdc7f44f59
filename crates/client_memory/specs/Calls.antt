-- Calls of one client, one behind the other, and what is kept behind them.
use Rattle.std.specs.Prelude.{◌≢◌, ℕ, List, [], ◌∷◌, fold, Option, Some, None, Result, Ok, Err}
use Rattle.ar_cert.specs.Changes.{Change}
use Rattle.client_rule.specs.Rule.{Asked}
use Rattle.client_memory.specs.declared.answers.AddFault.{AddFault}
use Rattle.client_memory.specs.Answers.{added, pinned_by}
use Rattle.client_memory.specs.Book.{Pin, pinned_chain, without}
use Rattle.client_memory.specs.Links.{AllFollow}

-- a call: a confirmation with links is judged, a name is forgotten, or one that was stored is added
pub data Call : Type 0 where
  judges : Asked → List ℕ → List Change → Call
  forgets : List ℕ → Call
  adds : List ℕ → List Change → Call

-- the book, where nothing was refused
abbrev pub unless_refused : List Pin → Result (List Pin) AddFault → List Pin
unless_refused book (Ok later) = later
unless_refused book (Err fault) = book

-- the book behind a call
abbrev pub after_call : List Pin → Call → List Pin
after_call book (judges asked bytes links) = (pinned_by book asked bytes links).1
after_call book (forgets name) = without book name
after_call book (adds name chain) = unless_refused book (added book name chain)

-- the book behind calls, one after the other
abbrev pub after_calls : List Pin → List Call → List Pin
after_calls = fold after_call

-- there is a change, and each next one follows the one before it by the policy rule
abbrev pub IsKeptChain : List Change → Type 0
IsKeptChain [] = ⊥
IsKeptChain (first ∷ later) = AllFollow first.cert later

-- what is kept of a name, none where it is not pinned
abbrev pub changes_of : Option (List Change) → List Change
changes_of None = []
changes_of (Some chain) = chain

abbrev pub kept_of : List Pin → List ℕ → List Change
kept_of book name = changes_of (pinned_chain book name)

-- the call does not forget a name
abbrev pub Spares : List ℕ → Call → Type 0
Spares name (judges asked bytes links) = Unit {0}
Spares name (forgets other) = other ≢ name
Spares name (adds other chain) = Unit {0}
