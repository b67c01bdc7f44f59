-- The row of the order to roll: the log goes on to its next key.
use Rattle.std.specs.Prelude.{List, [], ◌∷◌, None}
use Rattle.lms_tree.specs.PublicKey.{key_text}
use Rattle.lms_tree.specs.declared.public_key.LmsPublic.{LmsPublic}
use Rattle.ar_message.specs.declared.address.Address.TheVariants.{Logs}
use Rattle.ar_message.specs.declared.message.Message.TheVariants.{RollNote}
use Rattle.ar_message.specs.Filling.{zeros}
use Rattle.key_roll.specs.Entry.{roll_text}
use Rattle.party_keys.specs.Learning.{after_adopting}
use Rattle.ar_statement.specs.Claims.{log_party}
use Rattle.epoch_log.specs.Calls.{after_roll}
use Rattle.log_sending.specs.Checks.{Check, has_next}
use Rattle.log_core.specs.Steps.{given}
use Rattle.log_sending.specs.Sending.{DraftMessage, draft_with, unsigned_of}
use Rattle.log_core.specs.State.{LogAnswer, CoreState, LogStep}

-- the newest generation is not the last
abbrev pub rolling_checks : CoreState → List Check
rolling_checks s = has_next s.log.past.signed ∷ []

-- the note of the Roll, which goes to all logs
abbrev pub roll_draft : CoreState → LmsPublic → DraftMessage
roll_draft s key =
    draft_with Logs (RollNote (log_party s.log.me) s.log.past.signed.newest key (zeros s.signature_len)) s.signature_len 0
    (roll_text (log_party s.log.me) s.log.past.signed.newest key)

-- its Roll is entered, and its own directory takes the key; nothing is added to what it saw
abbrev pub rolling_reply : CoreState → LmsPublic → LogStep
rolling_reply s key = record {
  unsigned = unsigned_of (after_roll s.log (key_text key)).past.signed (roll_draft s key ∷ []) None;
  after = record {
    log = after_roll s.log (key_text key);
    keys = after_adopting s.keys (log_party s.log.me) s.log.past.signed.newest key;
    queue = s.queue;
    signature_len = s.signature_len;
  };
}

unfoldable pub rolling_row : CoreState → LmsPublic → LogAnswer
rolling_row s key = given (rolling_checks s) (rolling_reply s key)
