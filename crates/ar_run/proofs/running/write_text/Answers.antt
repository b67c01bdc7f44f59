-- Each line that was written goes behind those before it, and the front of one that failed too.
use Rattle.std.proofs.Common.{rules, ℕ, subst, ◌∙◌}
use Rattle.ar_base.specs.Faults.{HasRisen}
use Rattle.ar_run.proofs.Joined.{broken_off, more_written}
use Rattle.ar_run.proofs.running.write_text.Goals as goal

pub returns-in_err-write_line : goal.returns-in_err-write_line
returns-in_err-write_line g c =
    let wrote = g.K.Sink.wrote in
    let new = c.write_line.new.sink in
    let failed = c.in_err-write_line.ensures.front in
    let Risen : ℕ → Type 0 = λ count. HasRisen count (g.K.Sink.faults new) in
    let risen = subst Risen c.loop-rest.invariant.1 failed.0 in
    let cut = broken_off wrote c.args.sink.now c.loop-rest.sink new c.args.text.now c.loop-rest.rest.now _ _ c.loop-rest.invariant.0 c.first_line.ensures.cut failed.1 in
    search (rules, risen, cut)

pub loop-rest-preserved : goal.loop-rest-preserved
loop-rest-preserved g c = (
  more_written g.K.Sink.wrote _ _ _ _ _ _ _ c.loop-rest.invariant.0 c.first_line.ensures.cut c.in_ok-write_line.ensures.all,
  c.in_ok-write_line.ensures.uncounted ∙ c.loop-rest.invariant.1,
)
