-- A world between two lines of a script, as plain data.
use Rattle.std.specs.Prelude.{ℕ, ◌+◌, List, [], ◌++◌, length, slice_set, Option, Some}
use Rattle.ar_cert.specs.Certificate.{Certificate}
use Rattle.ar_records.specs.ar_safety.Held.{AcceptedBytes}
use Rattle.ar_statement.specs.declared.text.SeenText.{SeenText}
use Rattle.owner_core.specs.State.{Owner}
use Rattle.party_keys.specs.Directory.{Directory, directory_with}
use Rattle.report_text.specs.declared.happening.Happening.{Happening}
use Rattle.ar_nodes.specs.Parties.{AuthorityNode, CheckParts, Forger, LogNode}
use Rattle.ar_nodes.specs.Pool.{Pooled, entries_from}
use Rattle.ar_founding.specs.FirstKeys.{Setup, plain_setup}
use Rattle.ar_world.specs.declared.phase.Phase.{Phase}
use Rattle.ar_world.specs.declared.phase.Phase.TheVariants.{Beginning}

-- a draft of the script: the number of its owner, and the certificate
pub record Drafted : Type 0 where
  pub owner : ℕ
  pub cert : Certificate

-- How far the script came, and the setup; the checks of owners that are handed in; each log and each authority by its number,
-- none where it is dishonest, and the dishonest ones in the order in which they became so; the owners in the order in which
-- they came; the directory with which each party begins, that of the clients, the Rolls that it learnt, and what clients
-- accepted; the drafts and the pool, each numbered from 1.
pub record World : Type 0 where
  pub phase : Phase
  pub setup : Setup
  pub checks : List CheckParts
  pub logs : List (Option LogNode)
  pub authorities : List (Option AuthorityNode)
  pub forgers : List Forger
  pub owners : List Owner
  pub genesis : Directory
  pub clients : Directory
  pub learned : List SeenText
  pub judged : List AcceptedBytes
  pub drafts : List Drafted
  pub pool : List Pooled

-- ---- the beginning

-- a directory of nobody
abbrev pub no_directory : Directory
no_directory = directory_with [] [] 0

-- before the first line, with these checks
abbrev pub first_world : List CheckParts → World
first_world checks = record {
  phase = Beginning;
  setup = plain_setup;
  checks = checks;
  logs = [];
  authorities = [];
  forgers = [];
  owners = [];
  genesis = no_directory;
  clients = no_directory;
  learned = [];
  judged = [];
  drafts = [];
  pool = [];
}

-- ---- what a line comes to

-- the world behind it, and what is printed
abbrev pub Moved : Type 0
Moved = World × List Happening

-- nothing is printed
abbrev pub silent : World → Moved
silent w = (w, [])

-- ---- changes of a world

-- the world with a log as it is now
abbrev pub with_log : World → ℕ → LogNode → World
with_log w number node = record w { logs = slice_set w.logs number (Some node) }

-- the world with an authority as it is now
abbrev pub with_authority : World → ℕ → AuthorityNode → World
with_authority w number node = record w { authorities = slice_set w.authorities number (Some node) }

-- the world with these messages behind those of its pool, each of which is printed with its number
abbrev pub with_messages : World → List Pooled → Moved
with_messages w messages = (record w { pool = w.pool ++ messages }, entries_from (length w.pool + 1) messages)

-- what is printed before what an outcome prints
abbrev pub printing : List Happening → Moved → Moved
printing said made = (made.0, said ++ made.1)
