-- The answer of a step, by what is sent and by what the log is behind it.
use Rattle.std.specs.Prelude.{List, Ok}
use Rattle.ar_cert.specs.Changes.{Change}
use Rattle.ar_message.specs.declared.unsigned.Unsigned.{Unsigned}
use Rattle.epoch_log.specs.Log.{LogParts}
use Rattle.log_core.specs.Kept.{IsKeptCore}
use Rattle.log_core.specs.State.{LogAnswer, CoreState, LogStep}

-- the core with a log and a queue
abbrev pub core-of : CoreState → LogParts → List Change → CoreState
core-of s log queue = record { log = log.state; keys = log.keys; queue = queue; signature_len = s.signature_len }

-- the answer that sends this and leaves this core
abbrev pub made : Unsigned → CoreState → LogAnswer
made unsigned after = Ok (record { unsigned = unsigned; after = after })

-- what is kept of a reply
abbrev pub KeepsReply : LogStep → Type 0
KeepsReply reply = IsKeptCore reply.after
