use Rattle.std.proofs.Common.{◌≡◌, ◌++◌, length, map}
use Rattle.std.specs.Vec.Iter.{into_iter_items, into_iter_len}
use Rattle.node_crowd.proofs.sharing.tasks_of.Given as goal

abbrev pub invariant-loop-row : goal.invariant-loop-row
invariant-loop-row g l =
    (map (λ task. task.row.stalls.items) l.tasks.items ++ map (λ row. row.stalls.items) (into_iter_items l.row-iterator) ≡ map (λ row. row.stalls.items) (into_iter_items l.initial.row-iterator))
    × (map (λ task. task.errands.items) l.tasks.items ++ map (λ list. list.items) (into_iter_items l.rest) ≡ map (λ list. list.items) (into_iter_items l.initial.rest))
    × (length (into_iter_items l.rest) ≡ length (into_iter_items l.row-iterator))
    × (into_iter_len l.rest ≡ length (into_iter_items l.rest))
    × (into_iter_len l.row-iterator ≡ length (into_iter_items l.row-iterator))
