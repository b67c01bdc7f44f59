-- The check of an authority that is kept: a book, and the answers that it did not let go.
use Rattle.std.specs.Prelude.{◌≡◌, List, [], Option}
use Rattle.std.specs.Option.{option_map}
use Rattle.owner_check.specs.Answers.{Booked}
use Rattle.owner_check.specs.declared.pair.Pair.{Pair}

-- its book, where it is there
abbrev pub book_of : Option Booked → Option (List Pair)
book_of check = option_map (λ c. c.book) check

-- a check that let go of its answers
abbrev pub without_answers : Booked → Booked
without_answers check = record check { answers = [] }

-- a check, where it is there, whose list of answers is empty
abbrev pub HasLetGo : Option Booked → Type 0
HasLetGo check = check ≡ option_map without_answers check
