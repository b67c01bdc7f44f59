use Rattle.std.proofs.Common.{rules, ◌+◌, take, drop, ap}
use Rattle.std.proofs.lemmas.List.{take_all}
use Rattle.log_restart.specs.Inputs.{text_of, texts_of}
use Rattle.log_restart.proofs.Costs.{at_input, input_at, upto_input}
use Rattle.log_restart.proofs.Stepping.{failed_at, takes_next, took_all, took_more, took_none}
use Rattle.log_restart.proofs.running.ask_all.Goals as goal

pub loop-input-init : goal.loop-input-init
loop-input-init g c = took_none g.K.Disk.seen g.K.Disk.held g.K.Disk.may_leave g.K.Disk.fuel g.K.Disk.faults c.args.kept.now c.requires.going

pub ask-requires : goal.ask-requires
ask-requires g c =
    let here = c.loop-input in
    record {
      going = here.invariant.going;
      takes = takes_next _ _ c.requires.replays.0 (texts_of (take here.input-index c.args.inputs.now)) (texts_of (drop (here.input-index + 1) c.args.inputs.now))
          (texts_of c.args.inputs.now) (text_of (input_at c.args.inputs.now here.input-index)) (at_input c.args.inputs.now here.input-index c.loop-input-test.true)
          c.requires.replays.1 here.invariant.became;
    }

pub loop-input-preserved : goal.loop-input-preserved
loop-input-preserved g c =
    let here = c.loop-input in
    let took = c.in_ok-ask.ensures.took (search rules) in
    took_more g.K.Disk.seen g.K.Disk.held g.K.Disk.may_leave g.K.Disk.fuel g.K.Disk.faults c.args.kept.now here.kept c.ask.new.kept
    (texts_of (take here.input-index c.args.inputs.now)) (texts_of (take (here.input-index + 1) c.args.inputs.now)) (text_of (input_at c.args.inputs.now here.input-index))
    (upto_input c.args.inputs.now here.input-index c.loop-input-test.true) here.invariant took

pub returns-then-not-branch-clause-failed : goal.returns-then-not-branch-clause-failed
returns-then-not-branch-clause-failed g c = λ is.
    let here = c.loop-input in
    let fails = c.in_ok-ask.ensures.failed (search rules) in
    failed_at g.K.Disk.seen g.K.Disk.held g.K.Disk.may_leave g.K.Disk.fuel g.K.Disk.faults c.args.kept.now here.kept c.ask.new.kept
    (texts_of (take here.input-index c.args.inputs.now)) (texts_of (drop (here.input-index + 1) c.args.inputs.now)) (texts_of c.args.inputs.now) (text_of (input_at c.args.inputs.now here.input-index))
    (at_input c.args.inputs.now here.input-index c.loop-input-test.true) here.invariant fails

pub returns-clause-took : goal.returns-clause-took
returns-clause-took g c = λ is.
    let here = c.loop-input in
    took_all g.K.Disk.seen g.K.Disk.held g.K.Disk.may_leave g.K.Disk.fuel g.K.Disk.faults c.args.kept.now here.kept
    (texts_of (take here.input-index c.args.inputs.now)) (texts_of c.args.inputs.now) (ap texts_of (take_all here.input-index c.args.inputs.now c.loop-input-test.false))
    here.invariant c.told.ensures.crash (g.met.K.Disk.seen_now here.kept.journal.disk) (g.met.K.Disk.held_now here.kept.journal.disk)
