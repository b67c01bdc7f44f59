use Rattle.std.proofs.Common.{◌≡◌, ◌≤◌, ◌+◌, ◌++◌, length, map, vec_len, vec_capacity}
use Rattle.std.specs.Vec.Iter.{into_iter_items}
use Rattle.ar_nodes.specs.Pool.{entries_from, pooled_from}
use Rattle.ar_nodes.proofs.sending.post.Given as goal

-- what is there, with what comes from here on, is what was there with all of it; and there is room for that
abbrev pub invariant-loop-outgoing : goal.invariant-loop-outgoing
invariant-loop-outgoing l =
    (l.pool.messages ++ map (pooled_from l.sender) (into_iter_items l.outgoing-iterator)
    ≡ l.initial.pool.messages ++ map (pooled_from l.sender) (into_iter_items l.initial.outgoing-iterator))
    × (l.said.items ++ entries_from (length l.pool.messages + 1) (map (pooled_from l.sender) (into_iter_items l.outgoing-iterator))
    ≡ l.initial.said.items ++ entries_from (length l.initial.pool.messages + 1) (map (pooled_from l.sender) (into_iter_items l.initial.outgoing-iterator)))
    × (length (into_iter_items l.outgoing-iterator) ≤ l.pool.room)
    × (vec_len l.said + length (into_iter_items l.outgoing-iterator) ≤ vec_capacity l.said)
