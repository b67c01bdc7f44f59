use Rattle.ar_cert.proofs.Accepted.{first_facts, next_facts}
use Rattle.ar_cert.proofs.laws.a_change_is_accepted_where_it_is_judged_so.Goals as goal

pub returns-clause-first : goal.returns-clause-first
returns-clause-first c = first_facts

pub returns-clause-next : goal.returns-clause-next
returns-clause-next c = next_facts
