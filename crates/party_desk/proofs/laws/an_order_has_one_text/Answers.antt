use Rattle.party_desk.proofs.OneText.{one_text_of_authority, one_text_of_log, one_text_of_owner}
use Rattle.party_desk.proofs.laws.an_order_has_one_text.Goals as goal

pub returns-clause-log : goal.returns-clause-log
returns-clause-log c = one_text_of_log

pub returns-clause-authority : goal.returns-clause-authority
returns-clause-authority c = one_text_of_authority

pub returns-clause-owner : goal.returns-clause-owner
returns-clause-owner c = one_text_of_owner
