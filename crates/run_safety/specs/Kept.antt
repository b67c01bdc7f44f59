-- What a run keeps of its nodes, its messages and its clients' directory.
use Rattle.std.specs.Prelude.{◌≡◌, Bool, true, List, All, IfSome, Option}
use Rattle.ar_base.specs.Bytes.{AreBytes}
use Rattle.ar_world.specs.ar_nodes.Parties.{AuthorityNode, LogNode}
use Rattle.ar_world.specs.ar_nodes.Pool.{Pooled}
use Rattle.ar_safety.specs.Accepting.{KnowsRing}
use Rattle.ar_safety.specs.Held.{AcceptedBytes}
use Rattle.ar_statement.specs.Claims.{authority_party, log_party}
use Rattle.ar_world.specs.Founding.{is_peopled}
use Rattle.ar_world.specs.State.{World}
use Rattle.authority_core.specs.State.{IsAuthority}
use Rattle.key_roll.specs.Ring.{AreKeysOf, IsRing}
use Rattle.ar_world.specs.log_core.Kept.{IsKeptCore}
use Rattle.party_keys.specs.Directory.{Directory, IsDirectory}
use Rattle.run_safety.specs.Own.{HasRolls}

-- An honest log is kept: its record is an honest log's, and what it counts was seen. Its ring has a key for each generation of
-- its book; behind the first each is the next of the one before it, and its Roll stands in the book. (That the first is the key
-- of its place, and so the ring no other party's, is said with the places: `IsLogOf`.)
pub record KeepsLog (node : LogNode) : Type 0 where
  pub core : IsKeptCore node.core
  pub book : AreKeysOf node.core.log.past.signed node.core.signature_len node.keys
  pub ring : IsRing node.keys
  pub rolls : HasRolls (log_party node.core.log.me) node.core.log.past.signed node.keys

-- The same of an honest authority; and its own directory knows its keys.
pub record KeepsAuthority (node : AuthorityNode) : Type 0 where
  pub state : IsAuthority node.state
  pub book : AreKeysOf node.state.past.signed node.state.signature_len node.keys
  pub ring : IsRing node.keys
  pub rolls : HasRolls (authority_party node.state.me) node.state.past.signed node.keys
  pub known : KnowsRing node.state.keys (authority_party node.state.me) node.state.past.signed.leaves node.keys

-- From the line `authorities` on the clients' directory is one; each honest log and authority is kept; each message is bytes,
-- and so is each that a client accepted.
pub record KeepsAll (late : Bool) (clients : Directory) (logs : List (Option LogNode)) (authorities : List (Option AuthorityNode)) (pool : List Pooled) (judged : List AcceptedBytes) : Type 0 where
  pub directory : late ≡ true → IsDirectory clients
  pub each_log : All (λ slot. IfSome slot KeepsLog) logs
  pub each_authority : All (λ slot. IfSome slot KeepsAuthority) authorities
  pub each_message : All (λ p. AreBytes p.bytes) pool
  pub each_judged : All (λ t. AreBytes t.bytes) judged

-- all of it in a world
abbrev pub KeepsWorld : World → Type 0
KeepsWorld w = KeepsAll (is_peopled w.phase) w.clients w.logs w.authorities w.pool w.judged
