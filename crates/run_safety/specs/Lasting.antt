-- What lasts from one world of a run to a later one: what honest parties signed, their keys, and the messages.
use Rattle.std.specs.Prelude.{◌≡◌, Some}
use Rattle.ar_base.specs.Prefixes.{BeginsWith}
use Rattle.ar_statement.specs.declared.party.Party.{Party}
use Rattle.ar_world.specs.Records.{HasParties}
use Rattle.ar_world.specs.State.{World}
use Rattle.run_safety.specs.Own.{Grows, PartyParts}
use Rattle.run_safety.specs.Unforged.{messages_of, parts_of}

-- the party was honest in the earlier world, and has grown since
pub record WasThere (w : World) (party : Party) (new : PartyParts) : Type 0 where
  pub old : PartyParts
  pub there : parts_of w party ≡ Some old
  pub grows : Grows old new

-- From the line `authorities` on, who is honest in a later world was honest in the earlier one, and its book, its keys and what
-- it saw only grew; all began with the same directory; and each message stays, with its bytes, before those that are new.
pub record Lasts (w later : World) : Type 0 where
  pub messages : BeginsWith (messages_of later.pool) (messages_of w.pool)
  pub late : HasParties w → HasParties later
  pub genesis : HasParties w → later.genesis ≡ w.genesis
  pub parties : HasParties w → (party : Party) (new : PartyParts) → parts_of later party ≡ Some new → WasThere w party new
