-- What `restart` is asked, and what a log of a run was asked, which is to be asked again.
use Rattle.std.specs.Prelude.{ℕ, List, [], ◌∷◌, map, Option, None, Some, option_and_then, option_map}
use Rattle.ar_lines.specs.Forms.{number_in}
use Rattle.script_play.specs.ar_nodes.Acting.{bytes_of}
use Rattle.script_play.specs.ar_nodes.Parties.{LogNode}
use Rattle.script_play.specs.ar_nodes.Pool.{Pooled, numbered}
use Rattle.script_play.specs.ar_nodes.declared.event.LogEvent.{LogEvent}
use Rattle.script_play.specs.ar_nodes.declared.event.LogEvent.TheVariants as events
use Rattle.script_play.specs.ar_world.Finding.{log_at}
use Rattle.script_play.specs.ar_world.State.{World}
use Rattle.key_roll.specs.Ring.{next_key}
use Rattle.lms_tree.specs.Key.{public_of}
use Rattle.lms_tree.specs.KeyParts.{KeyParts}
use Rattle.log_core.specs.State as core
use Rattle.run_replays.specs.log_journal.Inputs.{input_text}
use Rattle.run_replays.specs.Inputs.{inputs_of, newest_behind}
use Rattle.run_restart.specs.declared.asking.Asked.{Asked}
use Rattle.run_restart.specs.declared.asking.Asked.TheVariants as asked
use Rattle.run_restart.specs.declared.command.Restart.{Restart}

-- ---- words

-- what two words say: a log from 0 to 15, and up to 1,000,000 calls of its first disk that pass
abbrev pub restart_of : List ℕ → List ℕ → Option Restart
restart_of number calls =
    option_and_then (λ n. option_map (λ many. record { log = n; calls = many }) (number_in 0 1000000 calls)) (number_in 0 15 number)

-- ---- a log

-- the texts of all that a log was asked and did not refuse, as a journal has them; none of a log that is not there
abbrev pub texts_of_log : World → ℕ → Option LogNode → List (List ℕ)
texts_of_log w number None = []
texts_of_log w number (Some node) = map input_text (inputs_of w number node)

abbrev pub texts_in : World → ℕ → List (List ℕ)
texts_in w number = texts_of_log w number (log_at w number)

-- ---- what it was asked, with its keys

-- what a log with this newest key was asked where this happened
abbrev pub asked_of : KeyParts → LogEvent → Asked
asked_of newest (events.Take message) = asked.Take message
asked_of newest events.Propose = asked.Propose
asked_of newest events.Pass = asked.Pass
asked_of newest events.Roll = asked.Roll (public_of (next_key newest))

-- where these things happened, one behind the other
abbrev pub asked_from : KeyParts → List LogEvent → List Asked
asked_from newest [] = []
asked_from newest (event ∷ more) = asked_of newest event ∷ asked_from (newest_behind newest event) more

-- that as an input of a log, with the messages of this pool
abbrev pub input_in : List Pooled → Asked → core.Input
input_in pool (asked.Take message) = core.takes (bytes_of (numbered pool message))
input_in pool asked.Propose = core.proposes
input_in pool asked.Pass = core.passes
input_in pool (asked.Roll key) = core.rolls key
