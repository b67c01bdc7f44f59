use Rattle.std.proofs.Common.{◌≡◌, length, List}
use Rattle.std.specs.List.{AllZip}
use Rattle.std.specs.Vec.Iter.{into_iter_items, into_iter_len}
use Rattle.ar_seats.specs.Shares.{whole}
use Rattle.node_crowd.specs.Stalls.{HasGathered}
use Rattle.node_crowd.specs.Working.{IsTaken}
use Rattle.node_crowd.proofs.AbreastLemmas.{StillCloses}
use Rattle.node_crowd.proofs.closing.close_all.Given as goal

abbrev pub invariant-loop-stall : goal.invariant-loop-stall
invariant-loop-stall g l =
    AllZip (λ booth stall. ((lists : List (List g.row.C-Input.Denot)) × HasGathered g.C.Core.next booth.node (g.F.Finish.finished booth.finish) stall lists) × (stall.seat.share ≡ whole)) (into_iter_items l.rest) (into_iter_items l.stall-iterator)
    × StillCloses (λ booth stall taken. (taken.finish ≡ booth.finish) × ((lists : List (List g.row.C-Input.Denot))
    → HasGathered g.C.Core.next booth.node (g.F.Finish.finished booth.finish) stall lists
    → IsTaken g.C.Core.next g.C.Core.legal (g.F.Finish.finished booth.finish) booth.node.first lists taken.history.items (g.C.Core.state taken.core) taken.replies.items))
    (into_iter_items l.initial.rest) (into_iter_items l.initial.stall-iterator) (into_iter_items l.rest) (into_iter_items l.stall-iterator) l.all.items
    × (into_iter_len l.rest ≡ length (into_iter_items l.rest))
    × (into_iter_len l.stall-iterator ≡ length (into_iter_items l.stall-iterator))
