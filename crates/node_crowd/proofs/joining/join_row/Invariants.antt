use Rattle.std.proofs.Common.{◌≡◌, drop, length}
use Rattle.std.specs.List.{AllZip}
use Rattle.std.specs.Vec.Iter.{into_iter_items, into_iter_len}
use Rattle.node_crowd.specs.Stalls.{IsJoined, IsStallOf}
use Rattle.node_crowd.proofs.AlongLemmas.{StillJoins}
use Rattle.node_crowd.proofs.joining.join_row.Given as goal

abbrev pub invariant-loop-other : goal.invariant-loop-other
invariant-loop-other g l =
    (length l.base ≡ length l.booths)
    × AllZip (λ booth stall. IsStallOf booth.node stall) (drop l.place l.booths) (drop l.place l.base)
    × AllZip (λ booth stall. IsStallOf booth.node stall) (drop l.place l.booths) (into_iter_items l.other-iterator)
    × StillJoins (λ booth old other new. IsJoined g.C.Core.next booth.node old other new) l.booths l.initial.base l.base (into_iter_items l.initial.other-iterator)
    (into_iter_items l.other-iterator) l.place
    × (into_iter_len l.other-iterator ≡ length (into_iter_items l.other-iterator))
