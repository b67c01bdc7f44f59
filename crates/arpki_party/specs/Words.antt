-- What the program's words ask.
use Rattle.std.specs.Prelude.{ℕ, ◌||◌, if◌then◌else◌, List, [], ◌∷◌, codes, map, Result, Ok, Err, String, string_bytes}
use Rattle.std.specs.Option.{ok_or}
use Rattle.std.specs.Str.{bytes_eq}
use Rattle.std.specs.declared.alloc.Global.{Global}
use Rattle.ar_base.specs.Chaining.{◌>>=◌}
use Rattle.ar_lines.specs.Forms.{number_in}
use Rattle.ar_statement.specs.declared.party.Role.{Role}
use Rattle.ar_statement.specs.declared.party.Role.TheVariants as role
use Rattle.arpki_party.specs.declared.asked.Asked.{Asked}
use Rattle.arpki_party.specs.declared.asked.Asked.TheVariants as asked
use Rattle.arpki_party.specs.declared.asked.NotAsked.{NotAsked}
use Rattle.arpki_party.specs.declared.asked.NotAsked.TheVariants as why
use Rattle.arpki_party.specs.declared.asked.PartyKind.{PartyKind}
use Rattle.arpki_party.specs.declared.asked.PartyKind.TheVariants.{Log, Authority, Owner}

-- the bytes of each word
abbrev pub texts : List (String Global) → List (List ℕ)
texts words = map string_bytes words

-- its role
abbrev pub role_of : PartyKind → Role
role_of Log = role.LogServer
role_of Authority = role.Authority
role_of Owner = role.Owner

-- what a word names
abbrev pub kind_named : List ℕ → Result PartyKind NotAsked
kind_named word =
    if bytes_eq word (codes "log") then Ok Log
    else if bytes_eq word (codes "authority") then Ok Authority
    else if bytes_eq word (codes "owner") then Ok Owner
    else Err why.Role

-- the greatest number of such a party
abbrev pub most_number : PartyKind → ℕ
most_number Log = 15
most_number Authority = 15
most_number Owner = 65535

-- the number of such a party that a word spells
abbrev pub number_named : PartyKind → List ℕ → Result ℕ NotAsked
number_named kind word = ok_or (number_in 0 (most_number kind) word) why.Number

-- what is asked
pub data Purpose : Type 0 where
  -- to say how the program is called
  help : Purpose
  -- to write the key of a party, with the path of its secret
  key : (kind : PartyKind) (number : ℕ) (secret : List ℕ) → Purpose
  -- to be a party, with the paths of its directory, its secret and its journal
  party : (kind : PartyKind) (number : ℕ) (directory secret journal : List ℕ) → Purpose

-- the same, as it is read in place
abbrev pub purpose_in : Asked → Purpose
purpose_in asked.Help = help
purpose_in (asked.Key kind number secret) = key kind number secret.now
purpose_in (asked.Party kind number directory secret journal) = party kind number directory.now secret.now journal.now

-- what the words ask, or why they ask nothing
abbrev pub purpose_of : List (List ℕ) → Result Purpose NotAsked
purpose_of (word ∷ []) = if bytes_eq word (codes "--help") || bytes_eq word (codes "-h") then Ok help else Err why.Count
purpose_of (word ∷ kind ∷ number ∷ secret ∷ []) =
    if bytes_eq word (codes "key") then (do
      of_kind ← kind_named kind
      of_number ← number_named of_kind number
      Ok (key of_kind of_number secret)) else Err why.Count
purpose_of (kind ∷ number ∷ directory ∷ secret ∷ journal ∷ []) = do
  of_kind ← kind_named kind
  of_number ← number_named of_kind number
  Ok (party of_kind of_number directory secret journal)
purpose_of words = Err why.Count
