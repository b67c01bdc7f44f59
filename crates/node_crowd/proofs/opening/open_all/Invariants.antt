use Rattle.std.proofs.Common.{◌≡◌, length}
use Rattle.std.specs.Vec.Iter.{into_iter_items, into_iter_len}
use Rattle.node_crowd.specs.Working.{IsOpened}
use Rattle.node_crowd.proofs.AbreastLemmas.{StillOpens}
use Rattle.node_crowd.proofs.opening.open_all.Given as goal

abbrev pub invariant-loop-desk : goal.invariant-loop-desk
invariant-loop-desk g l =
    StillOpens (λ desk booth stall. IsOpened g.C.Core.state desk.core desk.finish booth.node booth.finish stall) (into_iter_items l.initial.desk-iterator) (into_iter_items l.desk-iterator) l.booths.items l.base.items
    × (into_iter_len l.desk-iterator ≡ length (into_iter_items l.desk-iterator))
