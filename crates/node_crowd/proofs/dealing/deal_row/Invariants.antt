use Rattle.std.proofs.Common.{◌≡◌, drop, length}
use Rattle.std.specs.List.{AllZip}
use Rattle.node_crowd.specs.Stalls.{CanBeSplit, IsIdle, IsSplit}
use Rattle.node_crowd.proofs.AlongLemmas.{StillDeals}
use Rattle.node_crowd.proofs.dealing.deal_row.Given as goal

abbrev pub invariant-loop-place : goal.invariant-loop-place
invariant-loop-place g l =
    (length l.base ≡ length l.booths)
    × AllZip (λ booth stall. IsIdle booth.node stall) (drop l.place l.booths) (drop l.place l.base)
    × StillDeals (λ booth old new given. IsSplit booth.node old new given) l.booths l.initial.base l.base l.stalls.items l.place
    × (CanBeSplit 1 l.initial.base → CanBeSplit 1 (drop l.place l.base))
