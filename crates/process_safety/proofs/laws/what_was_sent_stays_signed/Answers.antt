use Rattle.authority_keeper.specs.Keeping as authority_keeping
use Rattle.log_journal.specs.Steps as log_standings
use Rattle.process_safety.proofs.Lasting.{authority-sent-stays, log-sent-stays}
use Rattle.process_safety.proofs.laws.what_was_sent_stays_signed.Goals as goal

pub returns-clause-log : goal.returns-clause-log
returns-clause-log c = λ n number mark before after text sent unsigned is honest once taken sends.
    log-sent-stays mark (log_standings.new_standing number n.directory (n.logs number).key) before after (n.logs number).standing text sent unsigned (n.logs number).texts once taken sends
    (is.logs number honest).leads

pub returns-clause-authority : goal.returns-clause-authority
returns-clause-authority c = λ n number mark before after text sent unsigned is honest once taken sends.
    authority-sent-stays mark (authority_keeping.new_standing number n.directory (n.authorities number).key) before after (n.authorities number).standing text sent unsigned (n.authorities number).texts once taken sends
    (is.authorities number honest).leads
