use Rattle.std.proofs.Common.{◌≡◌, ◌++◌, map, Ok}
use Rattle.std.specs.Vec.Iter.{into_iter_items}
use Rattle.serve_run.proofs.serving.each_told.Given as goal

abbrev pub invariant-loop-result : goal.invariant-loop-result
invariant-loop-result l = into_iter_items l.initial.result-iterator ≡ map Ok l.all.items ++ into_iter_items l.result-iterator
