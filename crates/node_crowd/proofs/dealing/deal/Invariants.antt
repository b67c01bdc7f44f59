use Rattle.std.proofs.Common.{◌≡◌, ◌+◌, ◌-◌, ℕ, length}
use Rattle.std.specs.List.{AllByRecursion, AllZip}
use Rattle.ar_seats.specs.Totals.{total}
use Rattle.node_crowd.specs.Stalls.{CanBeSplit, IsIdle, share_at}
use Rattle.node_crowd.proofs.dealing.deal.Given as goal

abbrev pub invariant-loop : goal.invariant-loop
invariant-loop g l =
    AllZip (λ booth stall. IsIdle booth.node stall) l.booths l.base
    × (length l.rows.items ≡ l.counter)
    × AllByRecursion (λ row. AllZip (λ booth stall. IsIdle booth.node stall) l.booths row.stalls.items) l.rows.items
    × ((place : ℕ) → share_at place l.base + total (λ row. share_at place row.stalls.items) l.rows.items ≡ share_at place l.initial.base)
    × (CanBeSplit l.workers l.initial.base → CanBeSplit (l.workers - l.counter) l.base)
