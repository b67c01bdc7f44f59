use Rattle.std.proofs.Common.{◌≡◌, ◌++◌, length}
use Rattle.std.specs.Vec.Iter.{into_iter_items, into_iter_len}
use Rattle.node_crowd.proofs.SharingLemmas.{AreShared}
use Rattle.node_crowd.proofs.sharing.give_all.Given as goal

abbrev pub invariant-loop-errand : goal.invariant-loop-errand
invariant-loop-errand g l =
    (length l.lists ≡ length l.initial.lists)
    × AreShared (length l.initial.lists) (λ list. list.items) l.lists l.yielded
    × (l.yielded ++ into_iter_items l.errand-iterator ≡ into_iter_items l.initial.errand-iterator)
    × (into_iter_len l.errand-iterator ≡ length (into_iter_items l.errand-iterator))
