-- What it means to enter a statement into a book.
use Rattle.std.specs.Prelude.{ℕ, ◌-◌, nat_lt, if◌then◌else◌, List, [], ◌∷◌, ◌++◌, length, Option, Some, None, Result, Ok, Err}
use Rattle.std.specs.Result.{result_map_both}
use Rattle.ar_base.specs.Places.{place_of}
use Rattle.sign_book.specs.Book.{Book}
use Rattle.sign_book.specs.Due.{LeafDueParts}
use Rattle.ar_statement.specs.declared.fault.BookFault.{BookFault}
use Rattle.ar_statement.specs.declared.fault.BookFault.TheVariants.{Spent}

-- the next place, where there is a leaf left
abbrev pub next_leaf : Book → Result ℕ BookFault
next_leaf book = if nat_lt (length book.texts) book.leaves then Ok (length book.texts) else Err Spent

-- the leaf of a text with this place in the book: its place, and for a new text the next place
abbrev pub leaf_at : Book → Option ℕ → Result ℕ BookFault
leaf_at book (Some place) = Ok place
leaf_at book None = next_leaf book

-- the leaf that a book gives to a text
abbrev pub leaf_of : Book → List ℕ → Result ℕ BookFault
leaf_of book text = leaf_at book (place_of book.texts text)

-- what is due for a text with this leaf in the book
abbrev pub due_at : Book → List ℕ → Result ℕ BookFault → Result LeafDueParts BookFault
due_at book text given =
    result_map_both (λ leaf. record { leaf = leaf; text = text; leaves = book.leaves }) (λ fault. fault) given

-- what entering a text gives, where memory lasts
abbrev pub due_of : Book → List ℕ → Result LeafDueParts BookFault
due_of book text = due_at book text (leaf_of book text)

-- the book with a text at the next place, for which it had room or takes it
abbrev pub with_text : Book → List ℕ → Book
with_text book text = record book { texts = book.texts ++ text ∷ []; room = book.room - 1 }

-- the book after it gave a leaf to a text that has this place in it
abbrev pub after_at : Book → List ℕ → Option ℕ → Book
after_at book text (Some place) = book
after_at book text None = with_text book text

-- the book after it gave a leaf to a text
abbrev pub after_entry : Book → List ℕ → Book
after_entry book text = after_at book text (place_of book.texts text)
