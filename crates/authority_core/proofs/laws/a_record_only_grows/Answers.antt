use Rattle.authority_core.proofs.Later.{endorse_adds, grows_on, half_confirmed_adds, learn_adds, log_confirmed_adds, roll_adds}
use Rattle.authority_core.proofs.laws.a_record_only_grows.Goals as goal

pub returns-clause-endorse : goal.returns-clause-endorse
returns-clause-endorse c = endorse_adds

pub returns-clause-first : goal.returns-clause-first
returns-clause-first c = log_confirmed_adds

pub returns-clause-second : goal.returns-clause-second
returns-clause-second c = half_confirmed_adds

pub returns-clause-learn : goal.returns-clause-learn
returns-clause-learn c = learn_adds

pub returns-clause-roll : goal.returns-clause-roll
returns-clause-roll c = roll_adds

pub returns-clause-on : goal.returns-clause-on
returns-clause-on c = grows_on
