-- What a message announces that is the note of a Roll.
use Rattle.std.specs.Prelude.{ℕ, Option, Some, None, Result, Ok}
use Rattle.ar_message.specs.declared.message.Message.{Message}
use Rattle.ar_message.specs.declared.message.Message.TheVariants.{RollNote}
use Rattle.party_keys.specs.Learning.{Announced}

-- what a message announces, where it is the note of a Roll
abbrev pub note_of : Result Message ℕ → Option Announced
note_of (Ok (RollNote party generation key signature)) = Some (record { party = party; generation = generation; key = key; signature = signature })
note_of _ = None
