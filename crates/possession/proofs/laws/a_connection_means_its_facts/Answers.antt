use Rattle.possession.proofs.Opened.{is_absent, is_open, is_refused, lacks_key}
use Rattle.possession.proofs.laws.a_connection_means_its_facts.Goals as goal

pub returns-clause-open : goal.returns-clause-open
returns-clause-open c = is_open

pub returns-clause-no_possession : goal.returns-clause-no_possession
returns-clause-no_possession c = lacks_key

pub returns-clause-absent : goal.returns-clause-absent
returns-clause-absent c = is_absent

pub returns-clause-refused : goal.returns-clause-refused
returns-clause-refused c = is_refused
