use Rattle.std.proofs.Common.{rules, ◌≡◌, ◌++◌, ◌∷◌, []}
use Rattle.std.specs.List.{filter_map}
use Rattle.ar_statement.specs.Claims.{party}
use Rattle.monitor.specs.Reports.{conflict_of}
use Rattle.monitor.proofs.Loops.{one-more}
use Rattle.monitor.proofs.naming.name_all.Goals as goal

pub loop-number-preserved : goal.loop-number-preserved
loop-number-preserved c =
    let is : c.name_one.new.conflicts.items ≡ c.loop-number.conflicts.items ++ filter_map (conflict_of c.args.sworn.now) (party c.args.role c.loop-number.number ∷ []) = search rules in
    one-more c.args.role c.loop-number.number c.args.sworn.now _ c.loop-number.conflicts.items c.name_one.new.conflicts.items c.loop-number.invariant is
