use Rattle.kept_journal.proofs.Loading.{not_bad}
use Rattle.kept_journal.proofs.Rereading.{stands_marked}
use Rattle.log_journal.specs.Determined.{one_standing}
use Rattle.log_journal.specs.Inputs.{mark}
use Rattle.log_journal.specs.Steps.{takes}
use Rattle.log_journal.proofs.laws.a_file_that_can_be_replayed_is_not_refused.Goals as goal

pub returns-clause-mark : goal.returns-clause-mark
returns-clause-mark c = stands_marked mark

pub returns-clause-records : goal.returns-clause-records
returns-clause-records c = not_bad takes one_standing mark
