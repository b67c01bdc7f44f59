use Rattle.party_desk.proofs.Orders.{only_authority_roll, only_log_roll, only_pass, only_propose, only_retire}
use Rattle.party_desk.proofs.laws.only_written_orders_are_read.Goals as goal

pub returns-clause-propose : goal.returns-clause-propose
returns-clause-propose c = only_propose

pub returns-clause-pass : goal.returns-clause-pass
returns-clause-pass c = only_pass

pub returns-clause-log_roll : goal.returns-clause-log_roll
returns-clause-log_roll c = only_log_roll

pub returns-clause-authority_roll : goal.returns-clause-authority_roll
returns-clause-authority_roll c = only_authority_roll

pub returns-clause-retire : goal.returns-clause-retire
returns-clause-retire c = only_retire
