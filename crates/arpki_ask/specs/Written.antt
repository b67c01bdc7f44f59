-- Inputs as they are written: the lines that put a question to `sig`, and an inquiry to `check`.
use Rattle.std.specs.Prelude.{◌≡◌, ◌<◌, ◌≤◌, ◌^◌, ℕ, List, [], ◌∷◌, ◌++◌, codes, length, map, All, Option, Some, option_and_then}
use Rattle.std.specs.Fmt.{decimal}
use Rattle.hex.specs.Hex.{IsBytes, encode_lower}
use Rattle.ar_names.specs.Names.{IsName}
use Rattle.lms_tree.specs.declared.public_key.LmsPublic.{LmsPublic}
use Rattle.party_keys.specs.Directory.{Directory, IsDirectory, directory_with}
use Rattle.ar_lines.specs.Written.{IsKey, hex_of_key, text_of_lines}
use Rattle.arpki_ask.specs.Inquiries.{Inquiry, most_rolls}
use Rattle.arpki_ask.specs.Notes.{learnt_from}
use Rattle.arpki_ask.specs.Questions.{Question}
use Rattle.script_text.specs.Written.{text_of_line}
use Rattle.script_text.specs.declared.line.Line.TheVariants.{Setup}
use Rattle.script_text.specs.declared.line.SetupLine.TheVariants.{Authorities, Logs}

-- ---- the question of `sig`

-- the question of a program that holds a key and two strings of bytes
pub record IsQuestion (question : Question) : Type 0 where
  pub key : IsKey question.key
  pub message : IsBytes question.message
  pub signature : IsBytes question.signature

-- its three lines: the key, the message and the signature, each in hex
abbrev pub question_lines : Question → List (List ℕ)
question_lines question =
    hex_of_key question.key ∷ encode_lower question.message ∷ encode_lower question.signature ∷ []

-- the question as it is written
abbrev pub question_text : Question → List ℕ
question_text question = text_of_lines (question_lines question)

-- ---- the inquiry of `check`

-- what an inquiry is written from: the key of generation 0 of each log and of each authority, how many logs
-- make a quorum, the bytes of RollNotes, and the inquiry, whose directory is the one behind them
pub record Asking : Type 0 where
  pub logs : List LmsPublic
  pub authorities : List LmsPublic
  pub quorum : ℕ
  pub rolls : List (List ℕ)
  pub inquiry : Inquiry

-- the directory behind all of these bytes, where it learns from each
abbrev pub learnt_from_all : Directory → List (List ℕ) → Option Directory
learnt_from_all keys [] = Some keys
learnt_from_all keys (note ∷ notes) = option_and_then (λ learnt. learnt_from_all learnt notes) (learnt_from keys note)

-- the directory of the keys of generation 0
abbrev pub first_directory : Asking → Directory
first_directory asking = directory_with asking.logs asking.authorities asking.quorum

-- the directory learns from each of the RollNotes, and is that of the inquiry then
abbrev pub IsLearnt : Asking → Type 0
IsLearnt asking = learnt_from_all (first_directory asking) asking.rolls ≡ Some asking.inquiry.asked.keys

-- the inquiry of a program that holds a directory, at most 64 RollNotes from which it learns, a name, two
-- numbers of 64 bits and a string of bytes
pub record IsAsking (asking : Asking) : Type 0 where
  pub directory : IsDirectory (first_directory asking)
  pub logs : All IsKey asking.logs
  pub authorities : All IsKey asking.authorities
  pub few_rolls : length asking.rolls ≤ most_rolls
  pub rolls : All IsBytes asking.rolls
  pub learnt : IsLearnt asking
  pub name : IsName asking.inquiry.asked.name
  pub now : asking.inquiry.asked.epoch < 2 ^ 64
  pub age : asking.inquiry.asked.age < 2 ^ 64
  pub confirmation : IsBytes asking.inquiry.confirmation

-- `key <112 hex>`: the key of a party
abbrev pub key_line : LmsPublic → List ℕ
key_line key = codes "key " ++ hex_of_key key

-- the lines of a directory: as in a script, how many logs there are, and how many of them make a quorum, with a
-- line for each key; and then the authorities so
abbrev pub directory_lines : Asking → List (List ℕ)
directory_lines asking =
    text_of_line (Setup (Logs (length asking.logs) asking.quorum))
    ∷ (map key_line asking.logs
    ++ (text_of_line (Setup (Authorities (length asking.authorities))) ∷ map key_line asking.authorities))

-- `roll <hex of a RollNote>`
abbrev pub roll_line : List ℕ → List ℕ
roll_line bytes = codes "roll " ++ encode_lower bytes

-- the lines behind them: the name, the epoch, the age and the confirmation
abbrev pub asked_lines : Inquiry → List (List ℕ)
asked_lines inquiry =
    (codes "name " ++ inquiry.asked.name)
    ∷ (codes "now " ++ decimal inquiry.asked.epoch)
    ∷ (codes "age " ++ decimal inquiry.asked.age)
    ∷ (codes "confirmation " ++ encode_lower inquiry.confirmation)
    ∷ []

-- all lines of the inquiry
abbrev pub inquiry_lines : Asking → List (List ℕ)
inquiry_lines asking = directory_lines asking ++ (map roll_line asking.rolls ++ asked_lines asking.inquiry)

-- the inquiry as it is written
abbrev pub inquiry_text : Asking → List ℕ
inquiry_text asking = text_of_lines (inquiry_lines asking)
