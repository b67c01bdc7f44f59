use Rattle.std.proofs.Common.{◌≡◌, ◌≤◌, ◌+◌, ◌++◌, length}
use Rattle.std.specs.Prelude.{vec_capacity, vec_len}
use Rattle.ar_founding.specs.Founded.{EachHasRing, IsLogRing, logs_of}
use Rattle.ar_founding.proofs.joined.join_logs.Given as goal

abbrev pub invariant-loop : goal.invariant-loop
invariant-loop l = record {
  same : l.logs.items ++ logs_of l.core_queue.items l.ring_queue.items ≡ l.initial.logs.items ++ logs_of l.initial.core_queue.items l.initial.ring_queue.items;
  left : length l.core_queue.items + l.counter ≡ l.count;
  own : EachHasRing IsLogRing l.core_queue.items l.ring_queue.items;
  room : vec_len l.logs + length l.core_queue.items ≤ vec_capacity l.logs;
}
