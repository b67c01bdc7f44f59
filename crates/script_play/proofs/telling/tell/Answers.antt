-- One happening more is told, or breaks off.
use Rattle.std.proofs.Common.{rules, ◌+◌, drop, sym, subst}
use Rattle.std.proofs.lemmas.List.{drop_all}
use Rattle.script_play.proofs.Written.{TellsOn, drop-item, tells-broken, tells-more, tells-none}
use Rattle.script_play.specs.declared.counts.Counts.{Counts}
use Rattle.script_play.proofs.telling.tell.Goals as goal

pub returns-in_err-tell_one-clause-written : goal.returns-in_err-tell_one-clause-written
returns-in_err-tell_one-clause-written g c =
    let here = c.loop-happening in
    let next = drop-item c.args.said.now here.happening-index c.happening-item.result c.loop-happening-test.true c.happening-item.is in
    let so = tells-broken g.K.Sink.faults g.K.Sink.wrote c.args.sink.now here.sink c.tell_one.new.sink c.args.counts.now here.counts c.args.counts.now c.args.said.now _ c.happening-item.result _ _ here.invariant next c.in_err-tell_one.ensures in
    search (rules, so.0)

pub loop-happening-preserved : goal.loop-happening-preserved
loop-happening-preserved g c =
    let here = c.loop-happening in
    let next = drop-item c.args.said.now here.happening-index c.happening-item.result c.loop-happening-test.true c.happening-item.is in
    let On = λ (so_far : Counts). TellsOn g.K.Sink.faults g.K.Sink.wrote c.args.sink.now c.tell_one.new.sink c.args.counts.now so_far c.args.said.now (drop (here.happening-index + 1) c.args.said.now) in
    subst On (sym c.count.ensures)
    (tells-more g.K.Sink.faults g.K.Sink.wrote c.args.sink.now here.sink c.tell_one.new.sink c.args.counts.now here.counts c.args.said.now _ c.happening-item.result _ here.invariant next c.in_ok-tell_one.ensures)

pub returns-clause-written : goal.returns-clause-written
returns-clause-written g c =
    let here = c.loop-happening in
    let none = drop_all here.happening-index c.args.said.now c.loop-happening-test.false in
    (tells-none g.K.Sink.faults g.K.Sink.wrote c.args.sink.now here.sink c.args.counts.now here.counts c.args.said.now _ here.invariant none).0

pub returns-clause-counted : goal.returns-clause-counted
returns-clause-counted g c =
    let here = c.loop-happening in
    let none = drop_all here.happening-index c.args.said.now c.loop-happening-test.false in
    (tells-none g.K.Sink.faults g.K.Sink.wrote c.args.sink.now here.sink c.args.counts.now here.counts c.args.said.now _ here.invariant none).1
