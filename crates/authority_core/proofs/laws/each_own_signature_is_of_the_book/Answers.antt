use Rattle.std.proofs.lemmas.List.Elements.{All-from_recursion}
use Rattle.authority_core.proofs.Later.{IsServedIn, rolling_step, row_step}
use Rattle.authority_core.proofs.laws.each_own_signature_is_of_the_book.Goals as goal

pub returns-clause-step : goal.returns-clause-step
returns-clause-step c s retired m said later sent is = All-from_recursion (IsServedIn later) sent.blanks (row_step s retired m said later sent is).served

pub returns-clause-roll : goal.returns-clause-roll
returns-clause-roll c s next later sent is = All-from_recursion (IsServedIn later) sent.blanks (rolling_step s next later sent is).served
