use Rattle.process_safety.proofs.Kept.{authority-record, log-record}
use Rattle.process_safety.proofs.laws.each_record_is_that_of_a_journal.Goals as goal

pub returns : goal.returns
returns c = record { logs = log-record; authorities = authority-record }
