-- The sizes of a directory: how many logs and authorities there are, and how many logs make a quorum. Keys are
-- none of it, so it stays when a party's next key is learnt.
use Rattle.std.specs.Prelude.{ℕ, ◌<◌, length}
use Rattle.ar_statement.specs.declared.party.Role.{Role}
use Rattle.ar_statement.specs.declared.party.Role.TheVariants.{LogServer, Authority, Owner, Client}
use Rattle.ar_statement.specs.declared.party.Party.{Party}
use Rattle.party_keys.specs.Directory.{Directory}

-- logs and authorities are numbered from 0, and so many logs are a quorum
pub record Council : Type 0 where
  pub logs : ℕ
  pub authorities : ℕ
  pub quorum : ℕ

-- how many parties of a role there are; owners and clients are not counted
abbrev pub count_of : Council → Role → ℕ
count_of council LogServer = council.logs
count_of council Authority = council.authorities
count_of council Owner = 0
count_of council Client = 0

-- the party is one of the logs or of the authorities
abbrev pub IsMember : Council → Party → Type 0
IsMember council party = party.number < count_of council party.role

-- the sizes of a directory
abbrev pub council_of : Directory → Council
council_of keys = record { logs = length keys.logs; authorities = length keys.authorities; quorum = keys.quorum }
