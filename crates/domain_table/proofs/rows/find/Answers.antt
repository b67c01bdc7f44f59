use Rattle.domain_table.proofs.Places.{found_when, missing_when}
use Rattle.domain_table.proofs.rows.find.Goals as goal

pub returns-clause-found : goal.returns-clause-found
returns-clause-found c = found_when c.args.rows.now.entries c.args.name.now c.get_index_of.result c.get_index_of.ensures.index

pub returns-clause-absent : goal.returns-clause-absent
returns-clause-absent c = missing_when c.args.rows.now.entries c.args.name.now c.get_index_of.result c.get_index_of.ensures.index
