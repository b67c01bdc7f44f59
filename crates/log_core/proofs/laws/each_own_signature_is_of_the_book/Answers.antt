use Rattle.std.proofs.lemmas.List.Elements.{All-from_recursion}
use Rattle.log_core.proofs.Later.{IsDueOf, IsServedIn, row-due, row-served}
use Rattle.log_core.proofs.laws.each_own_signature_is_of_the_book.Goals as goal

pub returns-clause-served : goal.returns-clause-served
returns-clause-served c s input reply answer = All-from_recursion (IsServedIn reply.after.log.past.signed) reply.unsigned.blanks (row-served s input reply answer)

pub returns-clause-due : goal.returns-clause-due
returns-clause-due c s input reply answer = All-from_recursion (IsDueOf reply.after.log.past.signed) reply.unsigned.blanks (row-due s input reply answer)
