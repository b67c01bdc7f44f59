-- What it means to enter a statement into a book, and to roll.
use Rattle.std.specs.Prelude.{◌≡◌, ℕ, ◌+◌, ◌-◌, ◌<◌, ◌==◌, Bool, IsTrue, nat_lt, if◌then◌else◌, List, [], ◌∷◌, ◌++◌, take, slice_get, Option, Some, None, option_and_then, Result, Ok, Err}
use Rattle.std.specs.Option.{option_map, ok_or}
use Rattle.ar_base.specs.Places.{place_of}
use Rattle.ar_statement.specs.declared.party.Party.{Party}
use Rattle.ar_statement.specs.Claims.{roll, text_of}
use Rattle.ar_statement.specs.Ranges.{IsKeyText, is_readable}
use Rattle.lms_tree.specs.PublicKey.{key_text}
use Rattle.lms_tree.specs.declared.public_key.LmsPublic.{LmsPublic}
use Rattle.key_roll.specs.declared.signed.SignedText.{SignedText}
use Rattle.ar_statement.specs.declared.fault.BookFault.{BookFault}
use Rattle.ar_statement.specs.declared.fault.BookFault.TheVariants.{Spent}
use Rattle.key_roll.specs.declared.fault.RollFault.{RollFault}
use Rattle.key_roll.specs.declared.fault.RollFault.TheVariants.{Last}
use Rattle.key_roll.specs.Book.{RollBook, last_generation, texts_of}
use Rattle.key_roll.specs.Due.{DueParts}
use Rattle.key_roll.specs.Rolls.{is_roll, plain_count}

-- ---- leaves

-- the leaf of the entry at a place: the last for a Roll, and else its place, from 0, among the entries of
-- its generation that are no Rolls
abbrev pub leaf_of : RollBook → ℕ → SignedText → ℕ
leaf_of book place s = if is_roll s.text then book.leaves - 1 else plain_count s.generation (take place book.list)

-- the leaf of a generation serves a text
abbrev pub LeafServes : RollBook → ℕ → ℕ → List ℕ → Type 0
LeafServes book generation leaf text =
    (place : ℕ) × (s : SignedText) × ((slice_get book.list place ≡ Some s) × (s.generation ≡ generation) × (s.text ≡ text) × (leaf_of book place s ≡ leaf))

-- what is due for the entry at a place
abbrev pub due_at : RollBook → ℕ → Option DueParts
due_at book place =
    option_map (λ s. record { generation = s.generation; leaf = leaf_of book place s; text = s.text; leaves = book.leaves })
    (slice_get book.list place)

-- what is due for a text that the book holds
abbrev pub due_of : RollBook → List ℕ → Option DueParts
due_of book text = option_and_then (due_at book) (place_of (texts_of book) text)

-- ---- statements

-- whether the newest generation has a leaf for one statement more, beside the last, which is kept for its
-- Roll
abbrev pub has_room : RollBook → Bool
has_room book = nat_lt (plain_count book.newest book.list + 1) book.leaves

-- the book with a text behind, at the newest generation
abbrev pub with_text : RollBook → List ℕ → RollBook
with_text book text = record book { list = book.list ++ record { generation = book.newest; text = text } ∷ [] }

-- the book after a text was entered that has this place in it
abbrev pub after_at : RollBook → List ℕ → Option ℕ → RollBook
after_at book text (Some place) = book
after_at book text None = if has_room book then with_text book text else book

-- the book after a text was entered: it is as before where it holds the text, or has no room
abbrev pub after_entry : RollBook → List ℕ → RollBook
after_entry book text = after_at book text (place_of (texts_of book) text)

-- what entering a text gives that the book does not hold
abbrev pub entered_new : RollBook → List ℕ → Result DueParts BookFault
entered_new book text =
    if has_room book then Ok (record { generation = book.newest; leaf = plain_count book.newest book.list; text = text; leaves = book.leaves })
    else Err Spent

-- what entering a text gives, where memory lasts
abbrev pub entered : RollBook → List ℕ → Result DueParts BookFault
entered book text = ok_or (due_of (after_entry book text) text) Spent

-- ---- Rolls

-- the text of the Roll by which a party announces its key behind a generation
abbrev pub roll_text : Party → ℕ → LmsPublic → List ℕ
roll_text signer generation next = text_of (roll signer generation (key_text next))

-- the book with a Roll at the newest generation, behind which is the next
abbrev pub with_roll : RollBook → List ℕ → RollBook
with_roll book text = record (with_text book text) { newest = book.newest + 1 }

-- A party may announce this key as its next one: the newest generation is not the last, and the key can be read.
pub record MayRoll (book : RollBook) (key : List ℕ) : Type 0 where
  pub not_last : book.newest < last_generation
  pub is_key : IsKeyText key
  pub readable : IsTrue (is_readable key)

-- what a roll gives, where memory lasts
abbrev pub rolled : RollBook → List ℕ → Result DueParts RollFault
rolled book text =
    if book.newest == last_generation then Err Last
    else Ok (record { generation = book.newest; leaf = book.leaves - 1; text = text; leaves = book.leaves })

-- what the Roll gives by which a party announces its next key
abbrev pub announced : RollBook → Party → LmsPublic → Result DueParts RollFault
announced book party next = rolled book (roll_text party book.newest next)
