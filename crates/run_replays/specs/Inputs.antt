-- What an honest log of a world was asked, by what it did: the inputs that it did not refuse, in order.
use Rattle.std.specs.Prelude.{ℕ, List, [], ◌∷◌}
use Rattle.run_safety.specs.ar_founding.FirstKeys.{key_for}
use Rattle.run_safety.specs.ar_nodes.Acting.{bytes_of}
use Rattle.run_safety.specs.ar_nodes.Parties.{LogNode}
use Rattle.run_safety.specs.ar_nodes.Pool.{Pooled, numbered}
use Rattle.run_safety.specs.ar_nodes.declared.event.LogEvent.{LogEvent}
use Rattle.run_safety.specs.ar_nodes.declared.event.LogEvent.TheVariants as events
use Rattle.ar_statement.specs.declared.party.Role.TheVariants.{LogServer}
use Rattle.run_safety.specs.ar_world.State.{World}
use Rattle.key_roll.specs.Ring.{next_key}
use Rattle.lms_tree.specs.Key.{public_of}
use Rattle.lms_tree.specs.KeyParts.{KeyParts}
use Rattle.run_safety.specs.log_core.State.{Input, passes, proposes, rolls, takes}

-- What a log with this newest key was asked where this happened: to take the message of the pool with this number, of no bytes
-- where there is none; to propose; to state what it did in the epoch; or to go on to its next key.
abbrev pub input_of_event : List Pooled → KeyParts → LogEvent → Input
input_of_event pool newest (events.Take message) = takes (bytes_of (numbered pool message))
input_of_event pool newest events.Propose = proposes
input_of_event pool newest events.Pass = passes
input_of_event pool newest events.Roll = rolls (public_of (next_key newest))

-- its newest key behind that
abbrev pub newest_behind : KeyParts → LogEvent → KeyParts
newest_behind newest (events.Take message) = newest
newest_behind newest events.Propose = newest
newest_behind newest events.Pass = newest
newest_behind newest events.Roll = next_key newest

-- what it was asked where these things happened, one behind the other
abbrev pub inputs_from : List Pooled → KeyParts → List LogEvent → List Input
inputs_from pool newest [] = []
inputs_from pool newest (event ∷ events) = input_of_event pool newest event ∷ inputs_from pool (newest_behind newest event) events

-- its newest key behind all of them
abbrev pub newest_after : KeyParts → List LogEvent → KeyParts
newest_after newest [] = newest
newest_after newest (event ∷ events) = newest_after (newest_behind newest event) events

-- the first key of the log with this number, which the founding made
abbrev pub first_key_of : World → ℕ → KeyParts
first_key_of w number = key_for w.setup LogServer number

-- all that this log with this number was asked and did not refuse
abbrev pub inputs_of : World → ℕ → LogNode → List Input
inputs_of w number node = inputs_from w.pool (first_key_of w number) node.taken
