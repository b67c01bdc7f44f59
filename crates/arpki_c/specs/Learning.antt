-- What a caller is told of a RollNote.
use Rattle.std.specs.Prelude.{◌≡◌, ◌⊎◌, ℕ, List, replicate, Option, Some, None, Result, Ok, Err}
use Rattle.ar_message.specs.Messages.{message_in}
use Rattle.ar_statement.specs.Claims.{role_number}
use Rattle.client_rule.specs.Notes.{note_of}
use Rattle.lms_tree.specs.PublicKey.{key_text}
use Rattle.party_keys.specs.Directory.{Directory}
use Rattle.party_keys.specs.Learning.{Announced, learned}
use Rattle.party_keys.specs.declared.fault.LearnFault.{LearnFault}
use Rattle.party_keys.specs.declared.fault.LearnFault.TheVariants as learn_fault
use Rattle.party_keys.specs.declared.learning.Learned.{Learned}
use Rattle.party_keys.specs.declared.learning.Learned.TheVariants.{New, Again}
use Rattle.arpki_c.specs.declared.keys.Entry.{Entry}
use Rattle.arpki_c.specs.declared.keys.KeysFault.{KeysFault}
use Rattle.arpki_c.specs.declared.keys.KeysFault.TheVariants as fault
use Rattle.arpki_c.specs.declared.learning.CallLesson.{CallLesson}

-- ---- the outcomes: 0 learnt, 1 known, 2 no note, 3 no memory, 4 bad keys, 5 unknown party, 6 bad signature, 7 other key

-- no entry
abbrev pub no_entry : Entry
no_entry = record { generation = 0; number = 0; role = 0; key = replicate 56 0 }

-- an outcome with a number, and no entry
abbrev pub said_lesson : ℕ → ℕ → CallLesson
said_lesson outcome check = record { entry = no_entry; outcome = outcome; check = check }

-- keys that make no directory
abbrev pub fault_lesson : KeysFault → CallLesson
fault_lesson fault.Memory = said_lesson 3 0
fault_lesson fault.Logs = said_lesson 4 1
fault_lesson fault.Authorities = said_lesson 4 2
fault_lesson fault.Quorum = said_lesson 4 3
fault_lesson fault.LogKey = said_lesson 4 4
fault_lesson fault.AuthorityKey = said_lesson 4 5
fault_lesson fault.Entry = said_lesson 4 6

-- the entry of what was announced
abbrev pub entry_of : Announced → Entry
entry_of a = record { generation = a.generation; number = a.party.number; role = role_number a.party.role; key = key_text a.key }

-- ---- what is told

-- of what was announced, by what the directory learns
abbrev pub learnt_lesson : Result Learned LearnFault → Announced → CallLesson
learnt_lesson (Ok New) a = record { entry = entry_of a; outcome = 0; check = 0 }
learnt_lesson (Ok Again) a = said_lesson 1 0
learnt_lesson (Err learn_fault.Unknown) a = said_lesson 5 0
learnt_lesson (Err (learn_fault.Bad test)) a = said_lesson 6 test
learnt_lesson (Err learn_fault.Other) a = said_lesson 7 0
learnt_lesson (Err learn_fault.Memory) a = said_lesson 3 0

-- of a note, where the bytes are one
abbrev pub lesson_on : Directory → Option Announced → CallLesson
lesson_on keys None = said_lesson 2 0
lesson_on keys (Some a) = learnt_lesson (learned keys a) a

-- of bytes, to who trusts the directory, or whose keys make none
abbrev pub lesson_told : Result Directory KeysFault → List ℕ → CallLesson
lesson_told (Err wrong) bytes = fault_lesson wrong
lesson_told (Ok keys) bytes = lesson_on keys (note_of (message_in bytes))

-- the lesson is this one, or that memory ran out
abbrev pub IsUnlessNoMemory : CallLesson → CallLesson → Type 0
IsUnlessNoMemory lesson told = (lesson ≡ said_lesson 3 0) ⊎ (lesson ≡ told)
