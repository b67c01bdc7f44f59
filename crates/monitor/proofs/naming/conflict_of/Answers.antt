use Rattle.std.proofs.Common.{rules, ◌≡◌, ◌≤◌, length, take, None, Some, sym, ◌∙◌}
use Rattle.monitor.specs.Reports.{conflict_with}
use Rattle.monitor.proofs.Loops.{ended, found, passed}
use Rattle.monitor.proofs.naming.conflict_of.Goals as goal

pub returns-in-Some : goal.returns-in-Some
returns-in-Some c =
    let is : conflict_with c.args.party (take c.loop-place.place c.args.sworn.now) c.index-sworn-place.result ≡ Some c.in-Some.conflict = search rules in
    sym (found c.args.party c.args.sworn.now c.loop-place.place c.index-sworn-place.result c.in-Some.conflict c.loop-place-test.true (sym c.index-sworn-place.is) is) ∙ c.loop-place.invariant

pub loop-place-preserved : goal.loop-place-preserved
loop-place-preserved c =
    let none : conflict_with c.args.party (take c.loop-place.place c.args.sworn.now) c.index-sworn-place.result ≡ None = search rules in
    passed c.args.party c.args.sworn.now c.loop-place.place c.index-sworn-place.result c.loop-place-test.true (sym c.index-sworn-place.is) none ∙ c.loop-place.invariant

pub returns : goal.returns
returns c =
    let over : length c.args.sworn.now ≤ c.loop-place.place = search rules in
    sym (ended c.args.party c.args.sworn.now c.loop-place.place over) ∙ c.loop-place.invariant
