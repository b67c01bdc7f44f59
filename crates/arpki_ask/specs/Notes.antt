-- What a directory learns from RollNotes, the messages by which logs and authorities announce their next keys.
use Rattle.std.specs.Prelude.{ℕ, List, Option, Some, None, option_and_then, Ok, Err, Result}
use Rattle.ar_message.specs.Messages.{message_in}
use Rattle.party_keys.specs.Directory.{Directory}
use Rattle.party_keys.specs.Learning.{Announced, learned, learning}
use Rattle.party_keys.specs.declared.fault.LearnFault.{LearnFault}
use Rattle.party_keys.specs.declared.learning.Learned.{Learned}
use Rattle.client_rule.specs.Notes.{note_of}

-- the directory behind what it learnt, new or again
abbrev pub if_learned : Result Learned LearnFault → Directory → Announced → Option Directory
if_learned (Ok is) keys a = Some (learning (Ok is) keys a)
if_learned (Err fault) keys a = None

-- the directory that learnt what was announced
abbrev pub learnt_by : Directory → Announced → Option Directory
learnt_by keys a = if_learned (learned keys a) keys a

-- the directory that learnt from these bytes
unfoldable pub learnt_from : Directory → List ℕ → Option Directory
learnt_from keys bytes = option_and_then (learnt_by keys) (note_of (message_in bytes))
