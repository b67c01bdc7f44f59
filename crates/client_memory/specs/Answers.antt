-- What a client answers to a confirmation of a name and to the links that lead to it, and what it keeps then.
use Rattle.std.specs.Prelude.{ℕ, nat_lt, ◌==◌, Bool, if◌then◌else◌, List, [], ◌∷◌, length, Option, Some, None, is_some, Result, Ok, Err}
use Rattle.std.specs.Str.{bytes_eq}
use Rattle.ar_base.specs.Chaining.{◌>>=◌}
use Rattle.ar_base.specs.Gives.{with_error}
use Rattle.ar_cert.specs.Certificate.{Certificate, certificate_text}
use Rattle.ar_cert.specs.Changes.{Change}
use Rattle.client_rule.specs.Rule.{Asked, judgement}
use Rattle.client_rule.specs.declared.judgement.Judgement.{Judgement}
use Rattle.client_rule.specs.declared.judgement.Judgement.TheVariants as judged
use Rattle.party_keys.specs.Directory.{Directory}
use Rattle.client_memory.specs.declared.answers.LinkFault.{LinkFault}
use Rattle.client_memory.specs.declared.answers.Pinned.{Pinned}
use Rattle.client_memory.specs.declared.answers.Pinned.TheVariants as pinned
use Rattle.client_memory.specs.declared.answers.AddFault.{AddFault}
use Rattle.client_memory.specs.declared.answers.AddFault.TheVariants as add_fault
use Rattle.client_memory.specs.Book.{Pin, has_room, newest_pinned, pinned_chain, with_links, with_pin}
use Rattle.client_memory.specs.Links.{followed, linked}

-- ---- what is answered

-- two certificates are the same: they have one text
abbrev pub is_this : Certificate → Certificate → Bool
is_this one other = bytes_eq (certificate_text one) (certificate_text other)

-- how many links there may be
abbrev pub most_links : ℕ
most_links = 64

-- the last certificate is this one, behind so many links
abbrev pub ends_in : Certificate → ℕ → Certificate → Pinned
ends_in this count last = if is_this last this then pinned.Moved count else pinned.WrongEnd

-- what the links lead to, or the first that is not linked
abbrev pub moved_to : Certificate → ℕ → Result Certificate (ℕ × LinkFault) → Pinned
moved_to this count (Ok last) = ends_in this count last
moved_to this count (Err fault) = pinned.Link fault.0 fault.1

-- the answer to a certificate of a name that is not pinned, and of one whose newest certificate is known: the first of
-- these that fits
abbrev pub answer_to : Directory → List Pin → Option Certificate → Certificate → List Change → Pinned
answer_to keys book None this links = if has_room book 1 then pinned.First else pinned.Full
answer_to keys book (Some newest) this links =
    if is_this newest this then pinned.Same else
    (if nat_lt most_links (length links) then pinned.Long else
    (if has_room book (length links) then
    (if length links == 0 then pinned.NoLinks else moved_to this (length links) (linked keys 0 newest links))
    else pinned.Full))

-- the answer to what the client's rule makes of a confirmation
abbrev pub answer_by : Directory → List Pin → List ℕ → Judgement → List Change → Pinned
answer_by keys book name (judged.Refused number) links = pinned.Refused number
answer_by keys book name (judged.Absent epoch root) links =
    if is_some (pinned_chain book name) then pinned.Gone else pinned.Absent
answer_by keys book name (judged.Accepted this digest epoch root) links =
    answer_to keys book (newest_pinned book name) this links

-- ---- what is kept then

-- a certificate that nothing vouched for but the confirmation
abbrev pub first_change : Certificate → Change
first_change cert = record { cert = cert; endorsements = []; handover = None; objection = None }

-- the book behind an answer to a certificate that is accepted: only `First`, which pins it under its own name, and `Moved`,
-- which puts the links behind the changes of the name, change it
abbrev pub kept_with : Certificate → List Pin → List ℕ → List Change → Pinned → List Pin
kept_with this book name links (pinned.Refused number) = book
kept_with this book name links pinned.Gone = book
kept_with this book name links pinned.Absent = book
kept_with this book name links pinned.Same = book
kept_with this book name links pinned.Long = book
kept_with this book name links pinned.Full = book
kept_with this book name links pinned.First = with_pin book this.name (first_change this ∷ [])
kept_with this book name links pinned.NoLinks = book
kept_with this book name links (pinned.Link place fault) = book
kept_with this book name links pinned.WrongEnd = book
kept_with this book name links (pinned.Moved count) = with_links book name links

-- the book behind an answer: where no certificate is accepted, it is as before
abbrev pub kept_behind : Judgement → List Pin → List ℕ → List Change → Pinned → List Pin
kept_behind (judged.Refused number) book name links answer = book
kept_behind (judged.Absent epoch root) book name links answer = book
kept_behind (judged.Accepted this digest epoch root) book name links answer = kept_with this book name links answer

-- what a call answers, by what the client's rule makes of the confirmation, and the book behind it
abbrev pub pinned_on : Judgement → List Pin → Asked → List Change → Pinned × List Pin
pinned_on judgement book asked links =
    let answer = answer_by asked.keys book asked.name judgement links
    in (answer, kept_behind judgement book asked.name links answer)

-- what a call answers, and the book behind it
abbrev pub pinned_by : List Pin → Asked → List ℕ → List Change → Pinned × List Pin
pinned_by book asked bytes links = pinned_on (judgement asked bytes) book asked links

-- ---- what is pinned again

-- there is a change, and each next one follows the one before it by the policy rule
abbrev pub chained : List Change → Result (Unit {0}) AddFault
chained [] = Err add_fault.Empty
chained (first ∷ later) = with_error (λ why. add_fault.Link why.0 why.1) (followed 0 first.cert later)

-- the book with a name that was stored with its changes, or the first fault that fits
abbrev pub added : List Pin → List ℕ → List Change → Result (List Pin) AddFault
added book name chain =
    if is_some (pinned_chain book name) then Err add_fault.Pinned else
    (if has_room book (length chain) then (chained chain >>= λ u. Ok (with_pin book name chain)) else Err add_fault.Full)
