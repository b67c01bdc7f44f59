use Rattle.std.proofs.Common.{rules, eqb}
use Rattle.std.proofs.lemmas.List.Sorted.{IsPartitionPoint-from_clause}
use Rattle.hash_tree.specs.Entries.{Entry, bit}
use Rattle.hash_tree.proofs.roots.first_one.Goals as goal

pub returns-clause-point : goal.returns-clause-point
returns-clause-point c = λ h. IsPartitionPoint-from_clause (λ (e : Entry). eqb (bit e.0 c.args.depth) 0) c.args.entries.now c.partition_point.result c.partition_point.ensures.partitioned h (λ a r f' called. search rules)
