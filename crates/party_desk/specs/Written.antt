-- Letters, lessons and orders as they are written.
use Rattle.std.specs.Prelude.{◌≡◌, ◌<◌, ◌^◌, ℕ, List, [], ◌∷◌, length}
use Rattle.std.specs.List.{join_with_byte}
use Rattle.hex.specs.Hex.{IsBytes, encode_lower}
use Rattle.ar_lines.specs.Parties.{party_word}
use Rattle.ar_message.specs.Sending.{Letter}
use Rattle.ar_message.specs.declared.address.Address.{Address}
use Rattle.ar_message.specs.declared.address.Address.TheVariants.{Logs, One}
use Rattle.ar_names.specs.Names.{IsName}
use Rattle.ar_statement.specs.Claims.{authority_party}
use Rattle.ar_statement.specs.declared.party.Party.{Party}
use Rattle.party_desk.specs.Asking.{LessonWords}

-- to whom a program may send: a party's number has two bytes
abbrev pub IsAddress : Address → Type 0
IsAddress Logs = Unit {0}
IsAddress (One party) = party.number < 2 ^ 16

-- a letter as a program holds one
pub record IsLetter (letter : Letter) : Type 0 where
  pub to : IsAddress letter.to
  pub bytes : IsBytes letter.bytes

-- a lesson as a program holds one: the text of a key has 56 bytes
pub record IsLesson (said : LessonWords) : Type 0 where
  pub authority : said.authority < 2 ^ 16
  pub name : IsName said.name
  pub key : IsBytes said.key
  pub key_len : length said.key ≡ 56

-- the line of a lesson, behind this word: `<A> <name> <112 hex>`
abbrev pub lesson_text : List ℕ → LessonWords → List ℕ
lesson_text word said = join_with_byte 32 (word ∷ party_word (authority_party said.authority) ∷ said.name ∷ encode_lower said.key ∷ [])

-- the line of an order to a party, behind this word: `<word> <party>`
abbrev pub order_text : List ℕ → Party → List ℕ
order_text word party = join_with_byte 32 (word ∷ party_word party ∷ [])
