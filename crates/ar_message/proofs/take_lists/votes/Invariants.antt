use Rattle.std.proofs.Common.{◌≡◌, ◌-◌, List}
use Rattle.std.specs.Prelude.{IfOk}
use Rattle.ar_bytes.specs.Ascending.{with_front}
use Rattle.ar_message.specs.Lists.{votes_from}
use Rattle.ar_message.specs.declared.lists.Vote.{Vote}
use Rattle.ar_message.proofs.take_lists.votes.Given as goal

-- what was read, and what is read from here on, are what is read from the start; and it was kept, unless memory was wanting
abbrev pub invariant-loop : goal.invariant-loop
invariant-loop l = (front : List Vote) × (IfOk l.list (λ kept. kept.items ≡ front) × (with_front front (votes_from (l.count - l.counter) l.least l.fields) ≡ votes_from l.count 0 l.initial.fields))
