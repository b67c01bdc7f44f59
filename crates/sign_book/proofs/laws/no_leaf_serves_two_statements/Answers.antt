use Rattle.std.proofs.Common.{[], List, ℕ, ◌≡◌, ◌++◌, ap}
use Rattle.ar_statement.specs.Claims.{text_of}
use Rattle.sign_book.specs.Entry.{after_entry}
use Rattle.sign_book.proofs.Entries.{given, still, one-text}
use Rattle.sign_book.proofs.laws.no_leaf_serves_two_statements.Goals as goal

pub returns : goal.returns
returns c = λ book later more first second leaf held_first held_second e grown e_later.
    let there = still (after_entry book (text_of first)).texts more later.texts (text_of first) leaf [] grown (given book (text_of first) leaf [] e) in
    let same : text_of first ≡ text_of second = one-text later (text_of first) (text_of second) leaf there e_later in
    let none : List ℕ = [] in
    (c.a_text_is_of_one_statement.ensures first second none none held_first held_second (ap (λ text. text ++ none) same)).0
