-- What honest parties and clients of a world hold, of which the theorem speaks; and which messages and steps are told of it.
use Rattle.std.specs.Prelude.{◌≡◌, ℕ, List, All, true, Option, Some}
use Rattle.std.specs.Option.{option_map}
use Rattle.ar_base.specs.Bytes.{AreBytes}
use Rattle.ar_records.specs.ar_safety.Held.{Held}
use Rattle.epoch_log.specs.Record.{LogRecord}
use Rattle.party_keys.specs.Directory.{IsDirectory}
use Rattle.ar_world.specs.Finding.{authority_at, log_at, message_at}
use Rattle.ar_records.specs.Records.{AuthorityKeepsRecord, LogKeepsRecord, held_by}
use Rattle.ar_world.specs.Founding.{is_peopled}
use Rattle.ar_nodes.specs.Parties.{AuthorityNode, LogNode}
use Rattle.ar_world.specs.State.{World}
use Rattle.ar_nodes.specs.declared.event.LogEvent.{LogEvent}

-- the records by all that the world has of parties and clients
abbrev pub held_of : World → Held
held_of w = held_by w.clients w.forgers w.logs w.authorities w.judged w.learned

-- the logs and authorities are there
abbrev pub HasParties : World → Type 0
HasParties w = is_peopled w.phase ≡ true

-- What each party keeps of itself: the clients' directory is one; the record of each honest log and authority is an honest
-- one's; and what clients accepted are bytes.
pub record KeepsRecords (w : World) : Type 0 where
  pub directory : IsDirectory w.clients
  pub logs : (number : ℕ) (node : LogNode) → log_at w number ≡ Some node → LogKeepsRecord node
  pub authorities : (number : ℕ) (node : AuthorityNode) → authority_at w number ≡ Some node → AuthorityKeepsRecord node
  pub bytes : All (λ taken. AreBytes taken.bytes) w.judged

-- the bytes of a message of the pool
abbrev pub bytes_at : World → ℕ → Option (List ℕ)
bytes_at w message = option_map (λ p. p.bytes) (message_at w message)

-- what an honest log did without refusing, in order
abbrev pub taken_at : World → ℕ → Option (List LogEvent)
taken_at w log = option_map (λ node. node.taken) (log_at w log)

-- what an honest log remembers
abbrev pub past_at : World → ℕ → Option LogRecord
past_at w log = option_map (λ node. node.core.log.past) (log_at w log)
