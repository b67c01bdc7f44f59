use Rattle.std.proofs.Common.{◌≡◌, ◌++◌, map}
use Rattle.std.specs.List.{AllByRecursion}
use Rattle.std.specs.Vec.Iter.{into_iter_items}
use Rattle.serve_run.specs.Workers.{Told, joined_all}
use Rattle.serve_run.proofs.serving.joined.Given as goal

abbrev pub invariant-loop-told : goal.invariant-loop-told
invariant-loop-told l =
    AllByRecursion (λ (told : Told). told.seat.book ≡ l.server.book) (into_iter_items l.told-iterator)
    × (l.seat.book ≡ l.server.book)
    × (joined_all l.seat (into_iter_items l.told-iterator) ≡ joined_all l.initial.seat (into_iter_items l.initial.told-iterator))
    × (map (λ r. r.items) l.rows.items ++ map (λ (told : Told). told.replies) (into_iter_items l.told-iterator)
    ≡ map (λ (told : Told). told.replies) (into_iter_items l.initial.told-iterator))
