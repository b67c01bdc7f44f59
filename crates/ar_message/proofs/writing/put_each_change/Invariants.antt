-- What has been appended so far is the text of the entries so far.
use Rattle.std.proofs.Common.{take, Ok}
use Rattle.std.specs.List.{flat_map}
use Rattle.ar_base.specs.Appending.{Appends}
use Rattle.ar_cert.specs.Changes.{change_text}
use Rattle.ar_message.proofs.writing.put_each_change.Given as goal

abbrev pub invariant-loop-change : goal.invariant-loop-change
invariant-loop-change l = Appends (flat_map change_text (take l.change-index l.changes)) l.initial.out l.out (Ok tt)
