-- What a client keeps: of each name that it pinned the changes, the oldest first.
use Rattle.std.specs.Prelude.{ℕ, ◌+◌, nat_le, Bool, not, if◌then◌else◌, List, [], ◌∷◌, ◌++◌, filter, find, length, Option, Some, None, option_and_then}
use Rattle.std.specs.Option.{option_map}
use Rattle.std.specs.Str.{bytes_eq}
use Rattle.ar_cert.specs.Certificate.{Certificate}
use Rattle.ar_cert.specs.Changes.{Change}

-- a name with its changes: each has a certificate, and what vouched for it
pub record Pin : Type 0 where
  pub name : List ℕ
  pub chain : List Change

-- the pin is of this name
abbrev pub is_of : List ℕ → Pin → Bool
is_of name pin = bytes_eq pin.name name

-- the changes of a name, where it is pinned
abbrev pub pinned_chain : List Pin → List ℕ → Option (List Change)
pinned_chain book name = option_map (λ pin. pin.chain) (find (is_of name) book)

-- the certificate of the last of these changes, or this one where there is none
abbrev pub last_behind : Certificate → List Change → Certificate
last_behind cert [] = cert
last_behind cert (change ∷ changes) = last_behind change.cert changes

-- the newest certificate of a list of changes
abbrev pub newest_of : List Change → Option Certificate
newest_of [] = None
newest_of (change ∷ changes) = Some (last_behind change.cert changes)

-- the newest certificate of a name, where it is pinned
abbrev pub newest_pinned : List Pin → List ℕ → Option Certificate
newest_pinned book name = option_and_then newest_of (pinned_chain book name)

-- how many changes are kept, of all names
abbrev pub kept_count : List Pin → ℕ
kept_count [] = 0
kept_count (pin ∷ book) = length pin.chain + kept_count book

-- how many there may be
abbrev pub most_kept : ℕ
most_kept = 4096

-- so many more may be kept
abbrev pub has_room : List Pin → ℕ → Bool
has_room book more = nat_le (kept_count book + more) most_kept

-- one more name, behind the others
abbrev pub with_pin : List Pin → List ℕ → List Change → List Pin
with_pin book name chain = book ++ record { name = name; chain = chain } ∷ []

-- these links behind the changes of a name
unfoldable pub with_links : List Pin → List ℕ → List Change → List Pin
with_links [] name links = []
with_links (pin ∷ book) name links =
    if is_of name pin then record { name = pin.name; chain = pin.chain ++ links } ∷ book else pin ∷ with_links book name links

-- without what is kept of a name
abbrev pub without : List Pin → List ℕ → List Pin
without book name = filter (λ pin. not (is_of name pin)) book
