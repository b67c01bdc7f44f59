-- What has been appended so far are the lines of the authorities so far.
use Rattle.std.proofs.Common.{take, Ok}
use Rattle.std.specs.List.{flat_map}
use Rattle.ar_base.specs.Appending.{Appends}
use Rattle.script_make.specs.Rows.{teaching_text}
use Rattle.script_make.proofs.rows.put_teachings.Given as goal

abbrev pub invariant-loop-authority : goal.invariant-loop-authority
invariant-loop-authority l = Appends (flat_map (teaching_text l.domain) (take l.authority-index l.authority-items)) l.initial.out l.out (Ok tt)
