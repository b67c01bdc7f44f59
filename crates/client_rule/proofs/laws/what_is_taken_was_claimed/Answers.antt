use Rattle.client_rule.proofs.Claiming.{first-claims, log-claims, roll-claims, second-claims}
use Rattle.client_rule.proofs.laws.what_is_taken_was_claimed.Goals as goal

pub returns-clause-log : goal.returns-clause-log
returns-clause-log c = log-claims

pub returns-clause-first : goal.returns-clause-first
returns-clause-first c = first-claims

pub returns-clause-second : goal.returns-clause-second
returns-clause-second c = second-claims

pub returns-clause-note : goal.returns-clause-note
returns-clause-note c = roll-claims
