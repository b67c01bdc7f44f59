-- What the words of a line name, and why a line is refused where one names nothing or where there is no room.
use Rattle.std.specs.Prelude.{ℕ, nat_lt, Bool, true, ◌&&◌, List, length, find, position, Option, is_some, Result}
use Rattle.std.specs.List.{list_all}
use Rattle.ar_base.specs.Chaining.{need}
use Rattle.ar_statement.specs.declared.party.Party.{Party}
use Rattle.ar_statement.specs.declared.party.Role.{Role}
use Rattle.ar_statement.specs.declared.party.Role.TheVariants.{LogServer, Authority, Owner, Client}
use Rattle.owner_core.specs.State as owners
use Rattle.ar_nodes.specs.Finding.{honest_in, checking_in, is_owner, is_forger, set_if}
use Rattle.ar_nodes.specs.Parties.{AuthorityNode, CheckParts, Forger, LogNode}
use Rattle.ar_nodes.specs.Pool.{Pooled, bytes_in, numbered, most_messages, most_pool_bytes}
use Rattle.ar_nodes.specs.declared.fault.WorldFault.{WorldFault}
use Rattle.ar_nodes.specs.declared.fault.WorldFault.TheVariants.{Absent, Limit}
use Rattle.ar_world.specs.State.{Drafted, Moved, World}

-- what a line comes to, or why it is refused
abbrev pub Effect : Type 0
Effect = Result Moved WorldFault

-- ---- parties

-- the honest log with this number
abbrev pub log_at : World → ℕ → Option LogNode
log_at w number = honest_in w.logs number

-- the honest authority with this number
abbrev pub authority_at : World → ℕ → Option AuthorityNode
authority_at w number = honest_in w.authorities number

-- the same of a world
abbrev pub checking_at : World → ℕ → Option (AuthorityNode × CheckParts)
checking_at w number = checking_in w.authorities number

abbrev pub owner_at : World → ℕ → Option owners.Owner
owner_at w number = find (is_owner number) w.owners

abbrev pub forger_at : World → Party → Option Forger
forger_at w party = find (is_forger party) w.forgers

-- whether there is such a party: a log or an authority of the directory, honest or not, or an owner that was made; each
-- client is there
abbrev pub is_there : World → Role → ℕ → Bool
is_there w LogServer number = nat_lt number (length w.logs)
is_there w Authority number = nat_lt number (length w.authorities)
is_there w Owner number = is_some (owner_at w number)
is_there w Client number = true

-- the word with this number names such a party
abbrev pub existing : World → ℕ → Role → ℕ → Result (Unit {0}) WorldFault
existing w word role number = need (is_there w role number) (Absent word)

-- there is an authority with this number, which has two bytes
abbrev pub is_authority : World → ℕ → Bool
is_authority w number = nat_lt number 65536 && is_there w Authority number

-- the word with this number names authorities alone
abbrev pub known_asks : World → ℕ → List ℕ → Result (Unit {0}) WorldFault
known_asks w word asks = need (list_all (is_authority w) asks) (Absent word)

-- ---- drafts and messages

abbrev pub draft_at : World → ℕ → Option Drafted
draft_at w number = numbered w.drafts number

abbrev pub message_at : World → ℕ → Option Pooled
message_at w number = numbered w.pool number

-- ---- items in the place of others

-- the world with an owner as it is now
abbrev pub with_owner : World → owners.Owner → World
with_owner w owner = record w { owners = set_if w.owners (position (is_owner owner.number) w.owners) owner }

-- the world with a dishonest party as it is now
abbrev pub with_forger : World → Forger → World
with_forger w forger = record w { forgers = set_if w.forgers (position (is_forger forger.party) w.forgers) forger }

-- ---- room

-- the pool is not full: a line that may send needs that
unfoldable pub has_room : World → Bool
has_room w = nat_lt (length w.pool) most_messages && nat_lt (bytes_in w.pool) most_pool_bytes

abbrev pub room : World → Result (Unit {0}) WorldFault
room w = need (has_room w) Limit

-- how many drafts there may be
abbrev pub most_drafts : ℕ
most_drafts = 4096
