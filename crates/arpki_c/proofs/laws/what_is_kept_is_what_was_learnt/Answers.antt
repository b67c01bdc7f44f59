use Rattle.arpki_c.proofs.Kept.{kept_all, kept_one}
use Rattle.arpki_c.proofs.laws.what_is_kept_is_what_was_learnt.Goals as goal

pub returns-clause-one : goal.returns-clause-one
returns-clause-one c = kept_one

pub returns-clause-each : goal.returns-clause-each
returns-clause-each c = kept_all
