use Rattle.hashed_strings.proofs.Bases.{decided-ranges}
use Rattle.hashed_strings.proofs.log_tables.behind.Goals as goal

pub applied-requires-clause-are : goal.applied-requires-clause-are
applied-requires-clause-are c = decided-ranges c.args.names.now c.args.ended.now c.args.epoch c.in-Some.changes.now c.requires.told c.in-Some.ensures
