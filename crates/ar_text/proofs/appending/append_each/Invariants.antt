-- What has been appended so far is the text of the parts so far.
use Rattle.std.proofs.Common.{take, Ok}
use Rattle.ar_base.specs.Appending.{Appends}
use Rattle.ar_text.specs.Parts.{text_of_parts}
use Rattle.ar_text.proofs.appending.append_each.Given as goal

abbrev pub invariant-loop-part : goal.invariant-loop-part
invariant-loop-part l = Appends (text_of_parts (take l.part-index l.parts)) l.initial.out l.out (Ok tt)
