use Rattle.std.proofs.Common.{◌≡◌, ◌≤◌, ◌+◌, ◌++◌, length}
use Rattle.std.specs.Prelude.{vec_capacity, vec_len}
use Rattle.ar_founding.specs.Founded.{EachHasRing, IsAuthorityRing, authorities_of}
use Rattle.ar_nodes.specs.Parties.{checks_told}
use Rattle.ar_founding.proofs.joined.join_authorities.Given as goal

abbrev pub invariant-loop : goal.invariant-loop
invariant-loop g l = record {
  same : l.authorities.items
      ++ authorities_of l.state_queue.items l.ring_queue.items (checks_told g.C.OwnerCheck.told g.C.OwnerCheck.answers l.check_queue.items)
      ≡ l.initial.authorities.items
      ++ authorities_of l.initial.state_queue.items l.initial.ring_queue.items
      (checks_told g.C.OwnerCheck.told g.C.OwnerCheck.answers l.initial.check_queue.items);
  left : length l.state_queue.items + l.counter ≡ l.count;
  own : EachHasRing IsAuthorityRing l.state_queue.items l.ring_queue.items;
  room : vec_len l.authorities + length l.state_queue.items ≤ vec_capacity l.authorities;
}
