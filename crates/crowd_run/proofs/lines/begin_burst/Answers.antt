-- The line `burst` is a `flush` without its deliveries.
use Rattle.std.proofs.Common.{None, Some, Ok, subst}
use Rattle.script_play.specs.Playing.{Stand}
use Rattle.script_play.proofs.Parts.{some-made}
use Rattle.script_text.specs.declared.line.Line.TheVariants as lines
use Rattle.crowd_run.specs.Passing.{LinePasses}
use Rattle.crowd_run.proofs.LineLemmas.{burst_passed}
use Rattle.crowd_run.proofs.lines.begin_burst.Goals as goal

pub returns-clause-passes : goal.returns-clause-passes
returns-clause-passes g c = λ workers.
    let s : Stand = record { world = c.stage.inside.world; counts = c.stage.inside.counts } in
    let t : Stand = record { world = c.step-made.new.self; counts = c.tell_made.new.counts } in
    let Passes : Stand → Type 0 = λ from. LinePasses g.K.Sink.faults g.K.Sink.wrote c.args.sink.now c.tell_made.new.sink workers from t None (Ok (Some lines.Burst)) c.tell_made.result in
    subst Passes c.stage.view_is (burst_passed g.K.Sink.faults g.K.Sink.wrote c.args.sink.now c.tell_made.new.sink workers s t c.tell_made.result
    (some-made g.K.Sink.faults g.K.Sink.wrote c.args.sink.now c.tell_made.new.sink s t c.step-made.result c.step-made.new.self _ c.tell_made.result c.step-made.ensures.steps
    (λ effect steps. c.tell_made.ensures.plays s.world c.step-made.new.self effect steps)))
