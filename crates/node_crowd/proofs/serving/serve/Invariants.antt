use Rattle.std.proofs.Common.{◌≡◌, ◌<◌, ◌++◌, ℕ, length}
use Rattle.std.specs.List.{AllByRecursion}
use Rattle.std.specs.Vec.Iter.{into_iter_items, into_iter_len}
use Rattle.node_crowd.specs.Bringing.{brought_to}
use Rattle.node_crowd.specs.Stalls.{share_at}
use Rattle.node_crowd.specs.Working.{RowServes}
use Rattle.node_crowd.proofs.serving.serve.Given as goal

abbrev pub invariant-loop-errand : goal.invariant-loop-errand
invariant-loop-errand g l =
    (length l.row ≡ length l.booths)
    × AllByRecursion (λ errand. errand.place < length l.booths) (into_iter_items l.errand-iterator)
    × RowServes (λ booth. booth.node) g.C.Core.next (λ booth. g.F.Finish.finished booth.finish) l.booths l.row (λ place. brought_to place l.yielded)
    × ((place : ℕ) → share_at place l.row ≡ share_at place l.initial.row)
    × (l.yielded ++ into_iter_items l.errand-iterator ≡ into_iter_items l.initial.errand-iterator)
    × (into_iter_len l.errand-iterator ≡ length (into_iter_items l.errand-iterator))
