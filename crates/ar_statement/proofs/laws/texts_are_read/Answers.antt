use Rattle.ar_statement.proofs.Statements.{statement_again, statement_pass}
use Rattle.ar_statement.proofs.laws.texts_are_read.Goals as goal

pub returns-clause-again : goal.returns-clause-again
returns-clause-again c = statement_again

pub returns-clause-only : goal.returns-clause-only
returns-clause-only c = statement_pass
