-- A burst whose deliveries were brought, all or not all of it told; and one for which memory is wanting.
use Rattle.std.proofs.Common.{◌≡◌, None, Some, Ok, Err, List, subst}
use Rattle.std.proofs.lemmas.Result.{err_from_is_err_and}
use Rattle.script_play.specs.ar_world.State.{World}
use Rattle.burst_run.specs.Bursts.{AreOrders, burst_made}
use Rattle.burst_run.specs.Stations.{Deliveries}
use Rattle.report_text.specs.declared.happening.Happening.{Happening}
use Rattle.script_play.specs.Counts.{counted_from}
use Rattle.script_play.specs.Playing.{Stand, WritesUpTo, told}
use Rattle.script_play.proofs.Written.{failing}
use Rattle.script_text.specs.declared.line.Line.TheVariants as lines
use Rattle.crowd_run.specs.Passing.{LinePasses}
use Rattle.crowd_run.proofs.LineLemmas.{end_told, end_untold, passed_no_more}
use Rattle.crowd_run.proofs.lines.end_burst.Goals as goal

pub returns-in_err-world : goal.returns-in_err-world
returns-in_err-world g c =
    let p = err_from_is_err_and c.from_residual.result c.from_residual.ensures.1 in
    rw (p.1, p.2) (passed_no_more g.K.Sink.faults g.K.Sink.wrote c.args.sink.now c.args.workers c.args.stage.now (record { world = c.replace-world.new.dest; counts = c.stage.inside.counts }) (Some c.args.deliveries) (Ok (Some lines.End)) c.requires.workers.0)

pub returns-in_err-tell : goal.returns-in_err-tell
returns-in_err-tell g c =
    let s : Stand = record { world = c.stage.inside.world; counts = c.stage.inside.counts } in
    let t : Stand = record { world = c.in_ok-world.world; counts = c.tell.new.counts } in
    let f = c.in_err-tell.field-0.0 in
    let made = c.in_ok-world.ensures in
    let same : c.as_slice.result.now ≡ c.args.deliveries = cc in
    let before : c.replace-world.result ≡ c.stage.inside.world = cc in
    let said : c.as_slice-2.result.now ≡ c.in_ok-world.said = cc in
    let Made : Deliveries → World → Type 0 = λ deliveries w. burst_made deliveries w made.0 ≡ (c.in_ok-world.world, c.in_ok-world.said) in
    let so = end_untold g.K.Sink.faults g.K.Sink.wrote c.args.sink.now c.tell.new.sink c.args.workers s t c.in_ok-world.world c.args.deliveries made.0 c.in_ok-world.said f
    (subst (λ (deliveries : Deliveries). AreOrders c.args.workers deliveries made.0) same made.1)
    (subst (λ (w : World). Made c.args.deliveries w) before (subst (λ (deliveries : Deliveries). Made deliveries c.replace-world.result) same made.2))
    (subst (λ (l : List Happening). WritesUpTo g.K.Sink.faults g.K.Sink.wrote c.args.sink.now c.tell.new.sink (told l) (failing (Unit {0}) f)) said c.in_err-tell.ensures.written) in
    let all = subst (λ (from : Stand). LinePasses g.K.Sink.faults g.K.Sink.wrote c.args.sink.now c.tell.new.sink c.args.workers from t (Some c.args.deliveries) (Ok (Some lines.End)) (Err f)) c.stage.view_is so in
    let p = err_from_is_err_and c.from_residual-in_err-tell.result c.from_residual-in_err-tell.ensures.1 in
    rw (p.1, p.2) all

pub returns : goal.returns
returns g c =
    let s : Stand = record { world = c.stage.inside.world; counts = c.stage.inside.counts } in
    let t : Stand = record { world = c.in_ok-world.world; counts = c.tell.new.counts } in
    let made = c.in_ok-world.ensures in
    let same : c.as_slice.result.now ≡ c.args.deliveries = cc in
    let before : c.replace-world.result ≡ c.stage.inside.world = cc in
    let said : c.as_slice-2.result.now ≡ c.in_ok-world.said = cc in
    let Made : Deliveries → World → Type 0 = λ deliveries w. burst_made deliveries w made.0 ≡ (c.in_ok-world.world, c.in_ok-world.said) in
    let so = end_told g.K.Sink.faults g.K.Sink.wrote c.args.sink.now c.tell.new.sink c.args.workers c.stage.inside.counts c.tell.new.counts c.stage.inside.world c.in_ok-world.world c.args.deliveries made.0 c.in_ok-world.said
    (subst (λ (deliveries : Deliveries). AreOrders c.args.workers deliveries made.0) same made.1)
    (subst (λ (w : World). Made c.args.deliveries w) before (subst (λ (deliveries : Deliveries). Made deliveries c.replace-world.result) same made.2))
    (subst (λ (l : List Happening). WritesUpTo g.K.Sink.faults g.K.Sink.wrote c.args.sink.now c.tell.new.sink (told l) (Ok tt)) said c.in_ok-tell.ensures.written)
    (subst (λ (l : List Happening). c.tell.new.counts ≡ counted_from c.stage.inside.counts l) said c.in_ok-tell.ensures.counted) in
    subst (λ (from : Stand). LinePasses g.K.Sink.faults g.K.Sink.wrote c.args.sink.now c.tell.new.sink c.args.workers from t (Some c.args.deliveries) (Ok (Some lines.End)) (Ok None)) c.stage.view_is so
