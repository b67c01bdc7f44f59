use Rattle.std.proofs.Common.{◌≡◌, ◌-◌, List}
use Rattle.std.specs.Prelude.{IfOk}
use Rattle.ar_bytes.specs.Ascending.{with_front}
use Rattle.ar_cert.specs.Changes.{Change, change_at}
use Rattle.ar_bytes.specs.Lists.{list_at}
use Rattle.ar_message.proofs.take_lists.changes.Given as goal

-- what was read, and what is read from here on, are what is read from the start; and it was kept, unless memory was wanting
abbrev pub invariant-loop : goal.invariant-loop
invariant-loop l = (front : List Change) × (IfOk l.list (λ kept. kept.items ≡ front) × (with_front front (list_at change_at (l.count - l.counter) l.fields) ≡ list_at change_at l.count l.initial.fields))
