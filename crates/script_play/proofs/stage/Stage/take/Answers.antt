-- A line, and what follows it where it is not refused.
use Rattle.std.proofs.Common.{rules, Option, Ok, subst}
use Rattle.ar_world.specs.declared.cause.Cause.{Cause}
use Rattle.script_play.proofs.Taking.{Alone, take-broken, take-followed, take-refused}
use Rattle.script_play.proofs.stage.Stage.take.Goals as goal

pub returns-in_err-cause-clause-plays : goal.returns-in_err-cause-clause-plays
returns-in_err-cause-clause-plays g c =
    let so = take-broken g.K.Sink.faults g.K.Sink.wrote c.args.sink.now c.take_alone.new.sink c.args.self.now c.take_alone.new.self c.args.line.now _ c.in_err-cause.ensures.plays in
    search (rules, so)

pub returns-in-Some-clause-plays : goal.returns-in-Some-clause-plays
returns-in-Some-clause-plays g c =
    let Taken = λ (cause : Option Cause). Alone g.K.Sink.faults g.K.Sink.wrote c.args.sink.now c.take_alone.new.sink c.args.self.now c.take_alone.new.self c.args.line.now (Ok cause) in
    take-refused g.K.Sink.faults g.K.Sink.wrote c.args.sink.now c.take_alone.new.sink c.args.self.now c.take_alone.new.self c.args.line.now c.in-Some.cause (subst Taken c.in-Some.is c.in_ok-cause.ensures.plays)

pub returns-in-None-clause-plays : goal.returns-in-None-clause-plays
returns-in-None-clause-plays g c =
    let Taken = λ (cause : Option Cause). Alone g.K.Sink.faults g.K.Sink.wrote c.args.sink.now c.take_alone.new.sink c.args.self.now c.take_alone.new.self c.args.line.now (Ok cause) in
    take-followed g.K.Sink.faults g.K.Sink.wrote c.args.sink.now c.take_alone.new.sink c.follow.new.sink c.args.self.now c.take_alone.new.self c.follow.new.self c.args.line.now c.follow.result (subst Taken c.in-None.is c.in_ok-cause.ensures.plays) c.follow.ensures
