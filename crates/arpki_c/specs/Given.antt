-- What a caller gives as keys, and the directory that they make.
use Rattle.std.specs.Prelude.{ℕ, ◌==◌, if◌then◌else◌, List, [], ◌∷◌, ◌++◌, length, Option, Some, None, Result, Ok, Err}
use Rattle.std.specs.Option.{ok_or}
use Rattle.ar_base.specs.Chaining.{◌>>=◌, need}
use Rattle.ar_statement.specs.Claims.{authority_party, log_party}
use Rattle.ar_statement.specs.declared.party.Party.{Party}
use Rattle.lms_tree.specs.PublicKey.{key_of_text}
use Rattle.lms_tree.specs.declared.public_key.LmsPublic.{LmsPublic}
use Rattle.party_keys.specs.Directory.{Directory, directory_with, is_party_count, is_quorum}
use Rattle.party_keys.specs.Learning.{after_adopting}
use Rattle.arpki_c.specs.declared.keys.Entry.{Entry}
use Rattle.arpki_c.specs.declared.keys.Keys.{Keys}
use Rattle.arpki_c.specs.declared.keys.KeysFault.{KeysFault}
use Rattle.arpki_c.specs.declared.keys.KeysFault.TheVariants as fault

-- the number of what is wrong with keys; want of memory has none
abbrev pub fault_number : KeysFault → ℕ
fault_number fault.Logs = 1
fault_number fault.Authorities = 2
fault_number fault.Quorum = 3
fault_number fault.LogKey = 4
fault_number fault.AuthorityKey = 5
fault_number fault.Entry = 6
fault_number fault.Memory = 0

-- ---- keys of generation 0

-- there may be so many logs, so many authorities, and this quorum; or the first that may not be
abbrev pub is_sized : Keys → Result (Unit {0}) KeysFault
is_sized given = do
  logs ← need (is_party_count (length given.logs.now)) fault.Logs
  authorities ← need (is_party_count (length given.authorities.now)) fault.Authorities
  need (is_quorum given.quorum (length given.logs.now)) fault.Quorum

-- the key of a text, or what is wrong where it is the text of none
abbrev pub key_or : KeysFault → List ℕ → Result LmsPublic KeysFault
key_or wrong text = ok_or (key_of_text text) wrong

-- these keys, and behind them the keys of these texts; or what is wrong, where one is the text of none
unfoldable pub keys_behind : KeysFault → List LmsPublic → List (List ℕ) → Result (List LmsPublic) KeysFault
keys_behind wrong front [] = Ok front
keys_behind wrong front (text ∷ texts) = key_or wrong text >>= λ key. keys_behind wrong (front ++ key ∷ []) texts

-- the directory of the keys of generation 0, or the first thing that is wrong with them
abbrev pub first_directory : Keys → Result Directory KeysFault
first_directory given = do
  sized ← is_sized given
  logs ← keys_behind fault.LogKey [] given.logs.now
  authorities ← keys_behind fault.AuthorityKey [] given.authorities.now
  Ok (directory_with logs authorities given.quorum)

-- ---- keys that were learnt

-- the party of an entry: 1 is the role of logs, 2 that of authorities
abbrev pub entry_party : Entry → Option Party
entry_party e =
    if e.role == 1 then Some (log_party e.number) else (if e.role == 2 then Some (authority_party e.number) else None)

-- the directory in which this key is the party's next behind this generation
abbrev pub entered : Directory → ℕ → Option Party → Option LmsPublic → Result Directory KeysFault
entered keys generation (Some party) (Some key) = Ok (after_adopting keys party generation key)
entered keys generation (Some party) None = Err fault.Entry
entered keys generation None key = Err fault.Entry

abbrev pub with_entry : Directory → Entry → Result Directory KeysFault
with_entry keys e = entered keys e.generation (entry_party e) (key_of_text e.key)

-- the directory behind all entries, in their order
unfoldable pub with_each : Directory → List Entry → Result Directory KeysFault
with_each keys [] = Ok keys
with_each keys (e ∷ entries) = with_entry keys e >>= λ next. with_each next entries

-- ---- all of them

-- the directory behind entries, where these keys of generation 0 make one
abbrev pub directory_from : Result Directory KeysFault → List Entry → Result Directory KeysFault
directory_from first entries = first >>= λ keys. with_each keys entries

-- the directory that a caller's keys make, or the first thing that is wrong with them
unfoldable pub directory_given : Keys → Result Directory KeysFault
directory_given given = directory_from (first_directory given) given.learnt.now
