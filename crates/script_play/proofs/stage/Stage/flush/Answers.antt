-- One delivery more is made, is refused or breaks off.
use Rattle.std.proofs.Common.{rules, ◌≡◌, ◌+◌, ◌-◌, Option, Some, None, Ok, subst, arith}
use Rattle.ar_world.specs.Delivering.{next_due}
use Rattle.ar_world.specs.Run.{most_deliveries}
use Rattle.ar_world.proofs.Searched.{none_searched}
use Rattle.ar_world.specs.declared.cause.Cause.{Cause}
use Rattle.script_play.proofs.Deliveries.{Delivers, left-more, nothing-before, on-broken, on-done, on-full, on-more, on-refused}
use Rattle.script_play.proofs.stage.Stage.flush.Goals as goal

pub returns-in_default : goal.returns-in_default
returns-in_default g c =
    let here = c.loop-number in
    on-done g.K.Sink.faults g.K.Sink.wrote c.args.sink.now here.sink c.args.self.now here.self most_deliveries (most_deliveries - here._number) here._number here.invariant.0 (cc)

pub returns-in_err-cause : goal.returns-in_err-cause
returns-in_err-cause g c =
    let here = c.loop-number in
    let due : next_due here.self.world ≡ Some (c.in-Some.message, c.in-Some.party) = cc in
    let so = on-broken g.K.Sink.faults g.K.Sink.wrote c.args.sink.now here.sink c.deliver.new.sink c.args.self.now here.self c.deliver.new.self most_deliveries (most_deliveries - here._number) (most_deliveries - (here._number + 1)) here._number c.in-Some.message c.in-Some.party _
    here.invariant.0 (left-more most_deliveries here._number c.loop-number-test.true) due c.in_err-cause.ensures in
    search (rules, so)

pub returns-in-Some-2 : goal.returns-in-Some-2
returns-in-Some-2 g c =
    let here = c.loop-number in
    let due : next_due here.self.world ≡ Some (c.in-Some.message, c.in-Some.party) = cc in
    let Made = λ (cause : Option Cause). Delivers g.K.Sink.faults g.K.Sink.wrote here.sink c.deliver.new.sink here.self c.deliver.new.self c.in-Some.message c.in-Some.party (Ok cause) in
    on-refused g.K.Sink.faults g.K.Sink.wrote c.args.sink.now here.sink c.deliver.new.sink c.args.self.now here.self c.deliver.new.self most_deliveries (most_deliveries - here._number) (most_deliveries - (here._number + 1)) here._number c.in-Some.message c.in-Some.party c.in-Some-2.cause
    here.invariant.0 (left-more most_deliveries here._number c.loop-number-test.true) due (subst Made c.in-Some-2.is c.in_ok-cause.ensures)

pub loop-number-preserved : goal.loop-number-preserved
loop-number-preserved g c =
    let here = c.loop-number in
    let due : next_due here.self.world ≡ Some (c.in-Some.message, c.in-Some.party) = cc in
    let Made = λ (cause : Option Cause). Delivers g.K.Sink.faults g.K.Sink.wrote here.sink c.deliver.new.sink here.self c.deliver.new.self c.in-Some.message c.in-Some.party (Ok cause) in
    let made : Made None = subst Made c.in_default-2.is c.in_ok-cause.ensures in (
      on-more g.K.Sink.faults g.K.Sink.wrote c.args.sink.now here.sink c.deliver.new.sink c.args.self.now here.self c.deliver.new.self most_deliveries (most_deliveries - here._number) (most_deliveries - (here._number + 1)) here._number c.in-Some.message c.in-Some.party
          here.invariant.0 (left-more most_deliveries here._number c.loop-number-test.true) due made,
      nothing-before g.K.Sink.faults g.K.Sink.wrote here.sink c.deliver.new.sink here.self c.deliver.new.self c.in-Some.message c.in-Some.party due made,
    )

pub returns : goal.returns
returns g c =
    let here = c.loop-number in
    on-full g.K.Sink.faults g.K.Sink.wrote c.args.sink.now here.sink c.args.self.now here.self most_deliveries (most_deliveries - here._number) here._number here.invariant.0 (omega (arith, c.loop-number-test.false))

pub loop-number-init : goal.loop-number-init
loop-number-init g c = (λ end u result all. all, none_searched _)

pub next_due_behind-requires : goal.next_due_behind-requires
next_due_behind-requires g c = c.loop-number.invariant.1
