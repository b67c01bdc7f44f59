-- What has been appended so far is the text of the entries so far.
use Rattle.std.proofs.Common.{take, Ok}
use Rattle.std.specs.List.{flat_map}
use Rattle.ar_base.specs.Appending.{Appends}
use Rattle.ar_message.specs.Lists.{status_text}
use Rattle.ar_message.proofs.writing.put_each_status.Given as goal

abbrev pub invariant-loop-status : goal.invariant-loop-status
invariant-loop-status l = Appends (flat_map status_text (take l.status-index l.statuses)) l.initial.out l.out (Ok tt)
