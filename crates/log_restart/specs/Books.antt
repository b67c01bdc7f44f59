-- What is told of the statements that a log signed.
use Rattle.std.specs.Prelude.{ℕ, ◌+◌, List, [], ◌∷◌, ◌++◌}
use Rattle.std.specs.Int.{w32}
use Rattle.sha2.specs.Sha256.{sha256}
use Rattle.ar_bytes.specs.RoundTrip.{counted_text, number_text}
use Rattle.key_roll.specs.Book.{RollBook}
use Rattle.key_roll.specs.Entry.{leaf_of}
use Rattle.key_roll.specs.declared.signed.SignedText.{SignedText}

-- the generation and the leaf of a statement, each in four bytes, and its text behind its length in two
abbrev pub entry_text : ℕ → ℕ → List ℕ → List ℕ
entry_text generation leaf text = number_text w32 generation ++ (number_text w32 leaf ++ counted_text text)

-- those of statements of a book, the first of which is the one at this place
abbrev pub entries_from : RollBook → ℕ → List SignedText → List ℕ
entries_from book place [] = []
entries_from book place (s ∷ more) = entry_text s.generation (leaf_of book place s) s.text ++ entries_from book (place + 1) more

-- those of all statements of a book, in the order in which they were entered
unfoldable pub book_text : RollBook → List ℕ
book_text book = entries_from book 0 book.list

-- their digest
abbrev pub book_digest : RollBook → List ℕ
book_digest book = sha256 (book_text book)
