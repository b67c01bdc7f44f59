use Rattle.vote_quorum.proofs.Silence.{distinct_logs, few_statuses, few_reporting}
use Rattle.vote_quorum.proofs.laws.each_status_is_of_one_log.Goals as goal

pub returns-clause-all : goal.returns-clause-all
returns-clause-all c = distinct_logs

pub returns-clause-few : goal.returns-clause-few
returns-clause-few c = few_statuses

pub returns-clause-reports : goal.returns-clause-reports
returns-clause-reports c root statuses = few_reporting root statuses
