use Rattle.std.proofs.Common.{◌++◌, [], List, ℕ, ap}
use Rattle.ar_statement.specs.Claims.{text_of}
use Rattle.key_roll.proofs.Books.{one_text}
use Rattle.key_roll.proofs.laws.no_leaf_serves_two_statements.Goals as goal

pub returns : goal.returns
returns c = λ book generation leaf first second sound held_first held_second serves_first serves_second.
    let none : List ℕ = [] in
    let same = one_text book generation leaf (text_of first) (text_of second) sound serves_first serves_second in
    (c.a_text_is_of_one_statement.ensures first second none none held_first held_second (ap (λ text. text ++ none) same)).0
