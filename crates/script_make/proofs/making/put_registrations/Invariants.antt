-- What has been appended so far are the lines of the batches so far.
use Rattle.std.proofs.Common.{Ok}
use Rattle.std.specs.List.{flat_map, range_with_len}
use Rattle.ar_base.specs.Appending.{Appends}
use Rattle.script_make.specs.Script.{registration}
use Rattle.script_make.proofs.making.put_registrations.Given as goal

abbrev pub invariant-loop-k : goal.invariant-loop-k
invariant-loop-k l = Appends (flat_map (registration l.domains) (range_with_len 0 l.k)) l.initial.out l.out (Ok tt)
