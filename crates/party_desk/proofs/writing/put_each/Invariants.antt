-- What was put so far is the lines of the messages so far.
use Rattle.std.proofs.Common.{◌≡◌, ◌++◌, take}
use Rattle.std.specs.List.{flat_map}
use Rattle.party_desk.specs.Telling.{letter_line}
use Rattle.party_desk.proofs.writing.put_each.Given as goal

abbrev pub invariant-loop-outgoing : goal.invariant-loop-outgoing
invariant-loop-outgoing l = l.out.items ≡ l.initial.out.items ++ flat_map letter_line (take l.outgoing-index l.messages)
