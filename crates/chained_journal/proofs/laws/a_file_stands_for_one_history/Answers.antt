use Rattle.chained_journal.proofs.Readings.{not_torn, one_torn_end, stands_once}
use Rattle.chained_journal.proofs.Rereading.{stands_recovered}
use Rattle.chained_journal.proofs.laws.a_file_stands_for_one_history.Goals as goal

pub returns-clause-one : goal.returns-clause-one
returns-clause-one c = stands_once

pub returns-clause-has : goal.returns-clause-has
returns-clause-has c = stands_recovered

pub returns-clause-torn : goal.returns-clause-torn
returns-clause-torn c = not_torn

pub returns-clause-torn_once : goal.returns-clause-torn_once
returns-clause-torn_once c = one_torn_end
