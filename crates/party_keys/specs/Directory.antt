-- Directories: the keys of all logs and authorities, and how many logs make a quorum.
use Rattle.std.specs.Prelude.{ℕ, ◌+◌, ◌*◌, ◌<◌, ◌≤◌, Bool, ◌&&◌, nat_lt, nat_le, if◌then◌else◌, List, [], ◌∷◌, length, map, slice_index_or, All, Result, Ok, Err}
use Rattle.ar_base.specs.Ranges.{is_from_to}
use Rattle.lms_tree.specs.declared.public_key.LmsPublic.{LmsPublic}
use Rattle.ar_statement.specs.declared.party.Role.{Role}
use Rattle.ar_statement.specs.declared.party.Role.TheVariants.{LogServer, Authority, Owner, Client}
use Rattle.ar_statement.specs.declared.party.Party.{Party}
use Rattle.ar_statement.specs.Claims.{most_parties}
use Rattle.party_keys.specs.declared.fault.DirectoryFault.{DirectoryFault}
use Rattle.party_keys.specs.declared.fault.DirectoryFault.TheVariants.{Logs, Authorities, Quorum}

-- what a directory says: the keys of each log and of each authority by its number, each a list from
-- generation 0 on, and how many logs make a quorum
pub record Directory : Type 0 where
  pub logs : List (List LmsPublic)
  pub authorities : List (List LmsPublic)
  pub quorum : ℕ

-- ---- keys

-- the keys of the parties of a role by number; owners and clients have none in a directory
abbrev pub role_keys : Directory → Role → List (List LmsPublic)
role_keys keys LogServer = keys.logs
role_keys keys Authority = keys.authorities
role_keys keys Owner = []
role_keys keys Client = []

-- the keys of the party with a number, none where there is no such party
abbrev pub keys_at : List (List LmsPublic) → ℕ → List LmsPublic
keys_at lists number = slice_index_or lists number []

-- a directory as a function from parties: a party's keys from generation 0 to the newest that is known,
-- and none where the party is not in the directory
abbrev pub keys_of : Directory → Party → List LmsPublic
keys_of keys party = keys_at (role_keys keys party.role) party.number

-- each of these keys as the one of its party that is known, that of generation 0
abbrev pub first_keys : List LmsPublic → List (List LmsPublic)
first_keys keys = map (λ key. key ∷ []) keys

-- ---- bounds

-- how many logs, and how many authorities, there may be
abbrev pub is_party_count : ℕ → Bool
is_party_count n = is_from_to 3 most_parties n

-- whether q of n logs are a quorum: any two quorums share more than two logs
abbrev pub is_quorum : ℕ → ℕ → Bool
is_quorum q n = nat_lt (n + 2) (2 * q) && nat_le q n

-- of each of the parties the key of generation 0 is known
abbrev pub HaveKeys : List (List LmsPublic) → Type 0
HaveKeys lists = All (λ keys. 0 < length keys) lists

-- the bounds that each directory keeps
pub record IsDirectory (keys : Directory) : Type 0 where
  pub logs_least : 3 ≤ length keys.logs
  pub logs_most : length keys.logs ≤ most_parties
  pub authorities_least : 3 ≤ length keys.authorities
  pub authorities_most : length keys.authorities ≤ most_parties
  pub quorum_least : length keys.logs + 2 < 2 * keys.quorum
  pub quorum_most : keys.quorum ≤ length keys.logs
  pub logs_keys : HaveKeys keys.logs
  pub authorities_keys : HaveKeys keys.authorities

-- the directory of these keys of generation 0
abbrev pub directory_with : List LmsPublic → List LmsPublic → ℕ → Directory
directory_with logs authorities q = record { logs = first_keys logs; authorities = first_keys authorities; quorum = q }

-- the directory of these keys, or the first bound that they do not keep
abbrev pub directory_of : List LmsPublic → List LmsPublic → ℕ → Result Directory DirectoryFault
directory_of logs authorities q =
    if is_party_count (length logs) then
    (if is_party_count (length authorities) then
    (if is_quorum q (length logs) then Ok (directory_with logs authorities q)
    else Err Quorum) else Err Authorities) else Err Logs
