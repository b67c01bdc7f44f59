-- What a caller keeps who learns from RollNotes, and what the directory is that learnt from them.
use Rattle.std.specs.Prelude.{ℕ, ◌==◌, if◌then◌else◌, List, [], ◌∷◌, ◌++◌, Option, Some, None, Result}
use Rattle.ar_message.specs.Messages.{message_in}
use Rattle.client_rule.specs.Notes.{note_of}
use Rattle.party_keys.specs.Directory.{Directory}
use Rattle.party_keys.specs.Learning.{Announced, after_learning}
use Rattle.arpki_c.specs.Given.{directory_from}
use Rattle.arpki_c.specs.Learning.{lesson_told}
use Rattle.arpki_c.specs.declared.keys.Entry.{Entry}
use Rattle.arpki_c.specs.declared.keys.KeysFault.{KeysFault}
use Rattle.arpki_c.specs.declared.learning.CallLesson.{CallLesson}

-- the entries of a caller who was told this: where the outcome is 0, the new one stands behind the others
abbrev pub keeping : List Entry → CallLesson → List Entry
keeping entries lesson = if lesson.outcome == 0 then entries ++ lesson.entry ∷ [] else entries

-- the entries of a caller who learns from a note, with these keys of generation 0
abbrev pub keeping_from : Result Directory KeysFault → List Entry → List ℕ → List Entry
keeping_from first entries note = keeping entries (lesson_told (directory_from first entries) note)

-- and from each of these notes, in their order
unfoldable pub keeping_all : Result Directory KeysFault → List Entry → List (List ℕ) → List Entry
keeping_all first entries [] = entries
keeping_all first entries (note ∷ notes) = keeping_all first (keeping_from first entries note) notes

-- the directory that learnt what was announced, where something was
abbrev pub after_note : Directory → Option Announced → Directory
after_note keys None = keys
after_note keys (Some a) = after_learning keys a

-- the directory that learnt from the bytes of a note; from bytes that are none it learns nothing
abbrev pub after_bytes : Directory → List ℕ → Directory
after_bytes keys note = after_note keys (note_of (message_in note))

-- and from each of these notes, in their order
unfoldable pub after_notes : Directory → List (List ℕ) → Directory
after_notes keys [] = keys
after_notes keys (note ∷ notes) = after_notes (after_bytes keys note) notes
