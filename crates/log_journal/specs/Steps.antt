-- What a log is, with its keys, and what it becomes by an input.
use Rattle.std.specs.Prelude.{◌≡◌, ℕ, List, [], ◌∷◌, Ok, Some}
use Rattle.ar_council.specs.Council.{council_of}
use Rattle.epoch_log.specs.Calls.{fresh}
use Rattle.key_roll.specs.Ring.{ring_signature_len}
use Rattle.lms_tree.specs.KeyParts.{KeyParts}
use Rattle.lms_tree.specs.LmsKind.{leaves_of}
use Rattle.log_core.specs.Keyed.{AreBehind, IsOwn, KeyedLogParts}
use Rattle.log_core.specs.Row.{row}
use Rattle.log_core.specs.State.{CoreState, Input, LogStep}
use Rattle.log_journal.specs.Inputs.{input_in}
use Rattle.party_keys.specs.Directory.{Directory}

-- where a log stands, and its keys
pub record LogStanding : Type 0 where
  pub core : CoreState
  pub keys : List KeyParts

-- that of a log as a program has it; for how many more keys there is room is left out
abbrev pub standing_of : KeyedLogParts → LogStanding
standing_of log = record { core = log.core; keys = log.ring.keys }

-- that of the log with this number that has done nothing yet
abbrev pub new_standing : ℕ → Directory → KeyParts → LogStanding
new_standing number directory key = record {
  core = record {
    log = fresh number (council_of directory) (leaves_of key.lms);
    keys = directory;
    queue = [];
    signature_len = ring_signature_len key;
  };
  keys = key ∷ [];
}

-- A log takes an input: it may be asked so, its row gives a reply, and it is what that leaves, with its next key where it rolls.
pub record TakesInput (old : LogStanding) (input : Input) (new : LogStanding) : Type 0 where
  pub own : IsOwn old.keys input
  pub reply : LogStep
  pub row_is : row old.core input ≡ Ok reply
  pub core_is : new.core ≡ reply.after
  pub keys_are : AreBehind input old.keys new.keys

-- it takes the input that a text says
pub record takes (old : LogStanding) (text : List ℕ) (new : LogStanding) : Type 0 where
  pub input : Input
  pub says : input_in text ≡ Some input
  pub steps : TakesInput old input new
