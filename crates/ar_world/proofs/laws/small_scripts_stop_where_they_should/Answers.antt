use Rattle.ar_world.proofs.Small.{writes-early, writes-no_logs, writes-twice, writes-unread}
use Rattle.ar_world.proofs.laws.small_scripts_stop_where_they_should.Goals as goal

pub returns-clause-early : goal.returns-clause-early
returns-clause-early c = writes-early

pub returns-clause-twice : goal.returns-clause-twice
returns-clause-twice c = writes-twice

pub returns-clause-no_logs : goal.returns-clause-no_logs
returns-clause-no_logs c = writes-no_logs

pub returns-clause-unread : goal.returns-clause-unread
returns-clause-unread c = writes-unread
