-- A script that is there, and one that is too long.
use Rattle.std.proofs.Common.{Option, Vec, ℕ, ◌∙◌, subst}
use Rattle.std.specs.declared.alloc.Global.{Global}
use Rattle.ar_run.specs.Runs.{IsInput}
use Rattle.crowd_run.proofs.Inputs.{script_long, script_there}
use Rattle.crowd_run.proofs.plays.play_script.Goals as goal

pub returns-in-None-clause-played : goal.returns-in-None-clause-played
returns-in-None-clause-played g c = λ input is.
    let Input : Option (Vec ℕ Global) → Type 0 = λ script. IsInput script input in
    script_long g.K.Sink.faults g.K.Sink.wrote c.args.sink.now c.tell_too_long.new.sink c.args.workers _ input c.tell_too_long.result c.requires.workers.0 (subst Input c.in-None.is is) c.tell_too_long.ensures.long

pub returns-in-Some-clause-played : goal.returns-in-Some-clause-played
returns-in-Some-clause-played g c = λ input is.
    let Input : Option (Vec ℕ Global) → Type 0 = λ script. IsInput script input in
    let there = subst Input c.in-Some.is is in
    script_there g.K.Sink.faults g.K.Sink.wrote c.args.sink.now c.play_short.new.sink c.args.workers _ c.deref.result.now input c.play_short.result (c.deref.ensures.value ∙ there.0) there.1 c.play_short.ensures.played
