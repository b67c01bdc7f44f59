-- What the program's world keeps beside what its lines speak of: the keys of the logs before these are there, and that each
-- directory is there in time.
use Rattle.std.specs.Prelude.{◌≡◌, ◌<◌, ◌^◌, true, List, length, All, Option, Some, None, is_some}
use Rattle.ar_statement.specs.declared.party.Role.TheVariants.{LogServer}
use Rattle.party_keys.specs.Directory.{Directory}
use Rattle.ar_founding.specs.FirstKeys.{FirstKeys, first_of}
use Rattle.ar_world.specs.Founding.{is_peopled}
use Rattle.ar_nodes.specs.Parties.{LogNode}
use Rattle.ar_world.specs.State.{Drafted, no_directory}
use Rattle.ar_founding.specs.FirstKeys.{Setup, keys_for}
use Rattle.ar_world.specs.declared.phase.Phase.{Phase}
use Rattle.ar_world.specs.declared.phase.Phase.TheVariants.{LogsMade}
use Rattle.ar_founding.specs.declared.directories.Directories.{Directories}

-- the directory of the first keys, and that of the clients; before the authorities are there, that of nobody
abbrev pub genesis_in : Option Directories → Directory
genesis_in None = no_directory
genesis_in (Some d) = d.genesis

abbrev pub clients_in : Option Directories → Directory
clients_in None = no_directory
clients_in (Some d) = d.clients

-- Behind the line `logs` the keys of the logs are kept; from the line `authorities` on there are directories; no draft has a
-- serial above the number of drafts before it; and each log has a number that a party can have.
pub record IsKeptWorld (phase : Phase) (setup : Setup) (log_keys : FirstKeys) (directories : Option Directories) (drafts : List Drafted) (logs : List (Option LogNode)) : Type 0 where
  pub keys : phase ≡ LogsMade → log_keys ≡ first_of (keys_for setup LogServer setup.logs)
  pub known : is_peopled phase ≡ true → is_some directories ≡ true
  pub serials : All (λ d. d.cert.serial < length drafts) drafts
  pub few : length logs < 2 ^ 16
