-- What the world did not take is told by no line.
use Rattle.std.proofs.Common.{Option, Result, subst, sym}
use Rattle.ar_run.specs.declared.fault.Fault.{Fault}
use Rattle.ar_world.specs.Run.{progress_of}
use Rattle.ar_world.specs.declared.cause.Cause.{Cause}
use Rattle.script_play.specs.Playing.{PlaysPart}
use Rattle.script_play.proofs.Parts.{made-untaken}
use Rattle.script_play.proofs.telling.tell_made.Goals as goal

pub returns-clause-plays : goal.returns-clause-plays
returns-clause-plays g c old new effect steps =
    let Plays = λ (result : Result (Option Cause) Fault). PlaysPart g.K.Sink.faults g.K.Sink.wrote c.args.sink.now c.args.sink.now (record { world = old; counts = c.args.counts.now }) (record { world = new; counts = c.args.counts.now }) (progress_of old effect) result in
    subst Plays (sym c.refused_by.ensures) (made-untaken g.K.Sink.faults g.K.Sink.wrote c.args.sink.now c.args.counts.now old new effect c.args.made c.in-Err.fault steps c.in-Err.is)
