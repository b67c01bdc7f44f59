use Rattle.kept_journal.proofs.Rereading.{short_recovered, stands_recovered}
use Rattle.kept_journal.proofs.laws.a_file_has_the_texts_that_it_stands_for.Goals as goal

pub returns-clause-stands : goal.returns-clause-stands
returns-clause-stands c = stands_recovered

pub returns-clause-short : goal.returns-clause-short
returns-clause-short c = short_recovered
