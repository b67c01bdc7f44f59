-- What has been appended so far are the numbers so far.
use Rattle.std.proofs.Common.{take, Ok}
use Rattle.ar_base.specs.Appending.{Appends}
use Rattle.report_text.specs.Lines.{taken_text}
use Rattle.report_text.proofs.words.put_taken.Given as goal

abbrev pub invariant-loop-message : goal.invariant-loop-message
invariant-loop-message l = Appends (taken_text (take l.message-index l.taken)) l.initial.out l.out (Ok tt)
