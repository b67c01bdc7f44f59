-- The row of each input of a log.
use Rattle.std.specs.Prelude.{ℕ, Result, Ok, Err, IsOk, IsTrue}
use Rattle.ar_base.specs.Bytes.{AreBytes}
use Rattle.ar_statement.specs.Ranges.{IsKeyText, is_readable}
use Rattle.lms_tree.specs.PublicKey.{key_text}
use Rattle.ar_message.specs.Messages.{message_in}
use Rattle.ar_message.specs.declared.message.Message.{Message}
use Rattle.ar_message.specs.declared.message.Message.TheVariants as messages
use Rattle.ar_statement.specs.Claims.{value_with}
use Rattle.log_core.specs.Balloted.{ballot_row}
use Rattle.log_core.specs.Confirming.{confirm_row}
use Rattle.log_core.specs.Decided.{decision_row}
use Rattle.log_core.specs.Learning.{roll_note_row}
use Rattle.log_core.specs.Passing.{passing_judged, passing_row}
use Rattle.log_core.specs.Proposed.{proposed_row}
use Rattle.log_core.specs.Proposing.{proposing_row, turn_judged}
use Rattle.log_core.specs.Rolling.{rolling_row}
use Rattle.log_core.specs.Skipped.{skip_row}
use Rattle.log_core.specs.State.{LogAnswer, CoreState, Input, passes, proposes, rolls, takes}
use Rattle.log_core.specs.Stated.{status_row}
use Rattle.log_core.specs.Submit.{submit_row}
use Rattle.log_sending.specs.Checks.{Check}
use Rattle.log_sending.specs.declared.refusal.LogRefusal.TheVariants as refusals

-- the row of a message beside those of changes, proposals, ballots and statuses: how an epoch ended, a request to confirm,
-- and a next key; no other is for a log
abbrev pub other_row : CoreState → Message → LogAnswer
other_row s (messages.Decision epoch base root changes votes) =
    decision_row s (record { epoch = epoch; value = value_with base root; changes = changes; votes = votes })
other_row s (messages.SkipNote epoch statuses) = skip_row s epoch statuses
other_row s (messages.ConfirmAsk client name first second) =
    confirm_row s (record { client = client; name = name; first = first; second = second })
other_row s (messages.RollNote party generation key signature) =
    roll_note_row s (record { party = party; generation = generation; key = key; signature = signature })
other_row s message = Err refusals.NotForLog

-- the row of a message
abbrev pub message_row : CoreState → Message → LogAnswer
message_row s (messages.Submit change) = submit_row s change
message_row s (messages.Propose log epoch base root changes signature) =
    proposed_row s (record { log = log; epoch = epoch; value = value_with base root; changes = changes; signature = signature })
message_row s (messages.Ballot log epoch base root signature) = ballot_row s log epoch (value_with base root) signature
message_row s (messages.StatusNote log epoch value signature) = status_row s log epoch value signature
message_row s message = other_row s message

-- the row of bytes: a message, or the place of the first field that fails
abbrev pub read_row : CoreState → Result Message ℕ → LogAnswer
read_row s (Ok message) = message_row s message
read_row s (Err place) = Err (refusals.Form place)

-- the row of an input
unfoldable pub row : CoreState → Input → LogAnswer
row s (takes bytes) = read_row s (message_in bytes)
row s proposes = proposing_row s
row s passes = passing_row s
row s (rolls key) = rolling_row s key

-- what a log is asked to take is the text of a message
abbrev pub IsReadable : Input → Type 0
IsReadable (takes bytes) = IsOk (message_in bytes)
IsReadable proposes = Unit {0}
IsReadable passes = Unit {0}
IsReadable (rolls key) = Unit {0}

-- what stands in the way of an order to propose or to pass, as far as that is known without any memory: whose turn it is, what the
-- log voted and stated, and, to pass, whether a leaf is left
abbrev pub order_judged : CoreState → Input → Check
order_judged s (takes bytes) = Ok tt
order_judged s proposes = turn_judged s
order_judged s passes = passing_judged s
order_judged s (rolls key) = Ok tt

-- an input as a program has it: bytes are bytes, and a key is one that can be read
abbrev pub IsLogInput : Input → Type 0
IsLogInput (takes bytes) = AreBytes bytes
IsLogInput proposes = Unit {0}
IsLogInput passes = Unit {0}
IsLogInput (rolls key) = IsKeyText (key_text key) × IsTrue (is_readable (key_text key))
