use Rattle.std.proofs.Common.{◌≡◌, ◌+◌, ◌++◌, ℕ, length}
use Rattle.std.specs.List.{AllByRecursion, AllZip}
use Rattle.std.specs.Vec.Iter.{into_iter_items, into_iter_len}
use Rattle.ar_seats.specs.Totals.{total}
use Rattle.node_crowd.specs.Stalls.{IsStallOf, share_at}
use Rattle.node_crowd.specs.Working.{Gathers}
use Rattle.node_crowd.proofs.gathering.gather.Given as goal

abbrev pub invariant-loop-row : goal.invariant-loop-row
invariant-loop-row g l =
    AllZip (λ booth stall. IsStallOf booth.node stall) l.booths l.base
    × AllByRecursion (λ row. AllZip (λ booth stall. IsStallOf booth.node stall) l.booths row.stalls.items) (into_iter_items l.row-iterator)
    × Gathers (λ booth. booth.node) g.C.Core.next (λ booth. g.F.Finish.finished booth.finish) (λ row. row.stalls.items) l.booths l.base l.yielded
    × ((place : ℕ) → share_at place l.base ≡ share_at place l.initial.base + total (λ row. share_at place row.stalls.items) l.yielded)
    × (l.yielded ++ into_iter_items l.row-iterator ≡ into_iter_items l.initial.row-iterator)
    × (into_iter_len l.row-iterator ≡ length (into_iter_items l.row-iterator))
