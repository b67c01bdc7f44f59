-- What it is that a step of a station is a step of the party in a world.
use Rattle.std.specs.Prelude.{◌≡◌, ℕ, List, [], ◌∷◌, ◌++◌, Ok, Err}
use Rattle.ar_nodes.specs.Acting.{Reply}
use Rattle.ar_nodes.specs.Parties.{AuthorityNode, LogNode}
use Rattle.ar_nodes.specs.declared.event.LogEvent.{LogEvent}
use Rattle.ar_nodes.specs.declared.event.LogEvent.TheVariants.{Take}
use Rattle.station.specs.Kept.{signed_reply}
use Rattle.station.specs.Station.{StationState, Unfilled, a_log, an_authority}

-- what a log that took a message did, unless it refused
abbrev pub events_of : ℕ → Unfilled → List LogEvent
events_of message (Ok unsigned) = Take message ∷ []
events_of message (Err code) = []

-- A log of a world became this and replied so, by what a station made of the message: it stands as the station does, has the
-- keys that it had, which sign the reply, and did this, where it did not refuse.
pub record LogBecomes (node : LogNode) (message : ℕ) (made : Unfilled × StationState) (after : LogNode × Reply) : Type 0 where
  pub stands : made.1 ≡ a_log after.0.core
  pub keys : after.0.keys ≡ node.keys
  pub taken : after.0.taken ≡ node.taken ++ events_of message made.0
  pub reply : after.1 ≡ signed_reply node.keys made.0

-- the same of an authority and its check
pub record AuthorityBecomes (node : AuthorityNode) (made : Unfilled × StationState) (after : AuthorityNode × Reply) : Type 0 where
  pub stands : made.1 ≡ an_authority after.0.state after.0.check
  pub keys : after.0.keys ≡ node.keys
  pub reply : after.1 ≡ signed_reply node.keys made.0
