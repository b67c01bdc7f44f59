-- The line `learn`: the clients' directory takes a message.
use Rattle.std.specs.Prelude.{ℕ, List, [], ◌∷◌, Option, Some, None, Result, Ok, Err}
use Rattle.ar_base.specs.Chaining.{◌>>=◌}
use Rattle.ar_council.specs.Seen.{with_seen}
use Rattle.party_keys.specs.Seen.{seen_of}
use Rattle.ar_message.specs.Messages.{message_in}
use Rattle.ar_statement.specs.declared.text.SeenText.{SeenText}
use Rattle.client_rule.specs.Notes.{note_of}
use Rattle.party_keys.specs.Directory.{Directory}
use Rattle.party_keys.specs.Learning.{Announced, after_learning, learned, roll_claim}
use Rattle.party_keys.specs.declared.fault.LearnFault.{LearnFault}
use Rattle.party_keys.specs.declared.fault.LearnFault.TheVariants as fault
use Rattle.party_keys.specs.declared.learning.Learned.{Learned}
use Rattle.report_text.specs.declared.happening.Happening.TheVariants.{Learnt}
use Rattle.report_text.specs.declared.happening.Unlearnt.{Unlearnt}
use Rattle.report_text.specs.declared.happening.Unlearnt.TheVariants as unlearnt
use Rattle.ar_nodes.specs.Finding.{named}
use Rattle.ar_world.specs.Finding.{Effect, message_at}
use Rattle.ar_world.specs.State.{Moved, World}

-- why a key is not learnt, as it is printed; want of memory is never printed
abbrev pub unlearnt_of : LearnFault → Unlearnt
unlearnt_of fault.Unknown = unlearnt.Unknown
unlearnt_of (fault.Bad condition) = unlearnt.Bad condition
unlearnt_of fault.Other = unlearnt.Other
unlearnt_of fault.Memory = unlearnt.Form

-- ---- what becomes of a note; a message that is none is not learnt

-- the directory behind it
abbrev pub knows_by : Directory → Option Announced → Directory
knows_by keys None = keys
knows_by keys (Some a) = after_learning keys a

-- the Rolls that were learnt, with this one where its key is learnt, now or before
abbrev pub rolls_with : List SeenText → SeenText → Result Learned LearnFault → List SeenText
rolls_with rolls new (Ok how) = with_seen rolls new
rolls_with rolls new (Err why) = rolls

abbrev pub rolls_by : Directory → List SeenText → Option Announced → List SeenText
rolls_by keys rolls None = rolls
rolls_by keys rolls (Some a) = rolls_with rolls (seen_of a.party (roll_claim a)) (learned keys a)

-- why it is not learnt, where it is not
abbrev pub why_not : Result Learned LearnFault → Option Unlearnt
why_not (Ok how) = None
why_not (Err why) = Some (unlearnt_of why)

abbrev pub refused_by : Directory → Option Announced → Option Unlearnt
refused_by keys None = Some unlearnt.Form
refused_by keys (Some a) = why_not (learned keys a)

-- all of it
abbrev pub learning : World → ℕ → Option Announced → Moved
learning w message note = (
  record w { clients = knows_by w.clients note; learned = rolls_by w.clients w.learned note },
  Learnt message (refused_by w.clients note) ∷ [],
)

-- word 1 names a message
abbrev pub learn_line : World → ℕ → Effect
learn_line w message = do
  p ← named 1 (message_at w message)
  Ok (learning w message (note_of (message_in p.bytes)))
