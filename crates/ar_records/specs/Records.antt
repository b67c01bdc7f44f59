-- What honest parties and clients hold, of which the theorem speaks, by the parties of a world; and what each keeps of itself.
use Rattle.std.specs.Prelude.{List, Option, map}
use Rattle.std.specs.List.{filter_map}
use Rattle.std.specs.Option.{option_map}
use Rattle.ar_council.specs.Council.{council_of}
use Rattle.ar_nodes.specs.Parties.{AuthorityNode, Forger, LogNode}
use Rattle.ar_safety.specs.Held.{Held, AcceptedBytes}
use Rattle.ar_statement.specs.declared.text.SeenText.{SeenText}
use Rattle.authority_core.specs.Honest.{IsOfHonestAuthority}
use Rattle.epoch_log.specs.Honest.{IsOfHonestLog}
use Rattle.party_keys.specs.Directory.{Directory}

-- the clients' directory, the dishonest parties, the records of the honest logs and of the honest authorities, each ascending by
-- number, what clients accepted, and the Rolls that their directory learnt
abbrev pub held_by : Directory → List Forger → List (Option LogNode) → List (Option AuthorityNode) → List AcceptedBytes → List SeenText → Held
held_by clients forgers logs authorities judged learned = record {
  directory = clients;
  dishonest = map (λ forger. forger.party) forgers;
  logs = filter_map (λ node. option_map (λ n. n.core.log.past) node) logs;
  authorities = filter_map (λ node. option_map (λ n. n.state.past) node) authorities;
  judged = judged;
  learned = learned;
}

-- an honest log's record is that of one with its number, by its council
abbrev pub LogKeepsRecord : LogNode → Type 0
LogKeepsRecord node = IsOfHonestLog node.core.log.council node.core.log.me node.core.log.past

-- the same of an honest authority, by the council of its directory
abbrev pub AuthorityKeepsRecord : AuthorityNode → Type 0
AuthorityKeepsRecord node = IsOfHonestAuthority (council_of node.state.keys) node.state.me node.state.past
