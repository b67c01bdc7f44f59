use Rattle.std.proofs.Common.{◌≡◌, ◌++◌, map, Ok}
use Rattle.std.specs.Vec.Iter.{into_iter_items}
use Rattle.node_crowd.proofs.working.each_row.Given as goal

abbrev pub invariant-loop-result : goal.invariant-loop-result
invariant-loop-result g l = into_iter_items l.initial.result-iterator ≡ map Ok l.rows.items ++ into_iter_items l.result-iterator
