-- That a log is what its inputs make of a new one.
use Rattle.std.specs.Prelude.{◌≡◌, ℕ, ◌-◌, List, [], ◌∷◌, length, map, slice_get, Some}
use Rattle.run_safety.specs.ar_nodes.Parties.{LogNode}
use Rattle.run_safety.specs.ar_nodes.Pool.{Pooled}
use Rattle.run_safety.specs.ar_nodes.declared.event.LogEvent.{LogEvent}
use Rattle.run_safety.specs.ar_world.Records.{HasParties}
use Rattle.run_safety.specs.ar_world.State.{World}
use Rattle.kept_journal.specs.Replays.{ReachesBy}
use Rattle.lms_tree.specs.KeyParts.{KeyParts}
use Rattle.run_safety.specs.log_core.State.{Input}
use Rattle.log_journal.specs.Inputs.{input_text}
use Rattle.log_journal.specs.Steps.{LogStanding, TakesInput, new_standing, takes}
use Rattle.run_replays.specs.Inputs.{first_key_of, input_of_event, inputs_from, inputs_of, newest_after, newest_behind}

-- a log becomes this by these inputs, one behind the other, none of which it refuses
abbrev pub Becomes : LogStanding → List Input → LogStanding → Type 0
Becomes first [] last = last ≡ first
Becomes first (input ∷ inputs) last = (mid : LogStanding) × TakesInput first input mid × Becomes mid inputs last

-- where a log of a world stands, and its keys
abbrev pub standing_in : LogNode → LogStanding
standing_in node = record { core = node.core; keys = node.keys }

-- the log with this number where the run began: it has done nothing, and knows the first keys
abbrev pub first_standing : World → ℕ → LogStanding
first_standing w number = new_standing number w.genesis (first_key_of w number)

-- a key is the newest of these
abbrev pub IsNewestKey : List KeyParts → KeyParts → Type 0
IsNewestKey keys key = slice_get keys (length keys - 1) ≡ Some key

-- An honest log of a world is what its inputs make of the log where the run began: by each input, and by each text as a
-- journal has it. Its first key is the one of the founding, its newest the one behind what it did; and the parties are there.
pub record IsReplayed (w : World) (number : ℕ) (node : LogNode) : Type 0 where
  pub becomes : Becomes (first_standing w number) (inputs_of w number node) (standing_in node)
  pub replays : ReachesBy takes (first_standing w number) (map input_text (inputs_of w number node)) (standing_in node)
  pub first : slice_get node.keys 0 ≡ Some (first_key_of w number)
  pub newest : IsNewestKey node.keys (newest_after (first_key_of w number) node.taken)
  pub late : HasParties w

-- A log that stands here takes the input of what happened next, with its own newest key, and of what happened then what is left:
-- it becomes the same in the end.
pub record TakesNext (pool : List Pooled) (here : LogStanding) (event : LogEvent) (events : List LogEvent) (last : LogStanding) : Type 0 where
  pub newest : KeyParts
  pub is_newest : IsNewestKey here.keys newest
  pub next : LogStanding
  pub steps : TakesInput here (input_of_event pool newest event) next
  pub rest : Becomes next (inputs_from pool (newest_behind newest event) events) last
