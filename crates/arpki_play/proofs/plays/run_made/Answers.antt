-- A summary that was written, or a front of it.
use Rattle.std.proofs.Common.{ℕ, List, subst}
use Rattle.ar_io.specs.Wrote.{Appended, AppendedFront}
use Rattle.arpki_play.proofs.Played.{made-done, made-front}
use Rattle.arpki_play.proofs.plays.run_made.Goals as goal

pub returns-in_err-write_line-clause-sink : goal.returns-in_err-write_line-clause-sink
returns-in_err-write_line-clause-sink g c is =
    let wrote = g.K.Sink.wrote in
    let failed = c.in_err-write_line.ensures.front in
    let Cut : List ℕ → Type 0 = λ line. AppendedFront wrote c.args.sink.now c.write_line.new.sink line in
    let cut = subst Cut c.deref.ensures.value failed.1 in
    (failed.0, made-front wrote c.args.sink.now c.write_line.new.sink _ _ _ _ c.in_ok-line.ensures.told cut)

pub returns-clause-ok : goal.returns-clause-ok
returns-clause-ok g c =
    let wrote = g.K.Sink.wrote in
    let Whole : List ℕ → Type 0 = λ line. Appended wrote c.args.sink.now c.write_line.new.sink line in
    made-done wrote c.args.sink.now c.write_line.new.sink _ _ c.in_ok-line.line _ c.in_ok-line.ensures.told (subst Whole c.deref.ensures.value c.in_ok-write_line.ensures.all)
