use Rattle.domain_table.proofs.Ripe.{ripe_appended, others_stay, ripe_when}
use Rattle.domain_table.proofs.laws.what_is_ripe_is_appended.Goals as goal

pub returns-clause-ripe : goal.returns-clause-ripe
returns-clause-ripe c = ripe_appended

pub returns-clause-others : goal.returns-clause-others
returns-clause-others c = others_stay

pub returns-clause-when : goal.returns-clause-when
returns-clause-when c = ripe_when
