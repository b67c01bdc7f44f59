use Rattle.std.proofs.Common.{◌∙◌}
use Rattle.ar_io.proofs.WroteLemmas.{Appended-more}
use Rattle.ar_io.proofs.writing.write_all.Goals as goal

-- what this write took goes behind what was written before, and the rest is shorter by as much
pub loop-rest-preserved : goal.loop-rest-preserved
loop-rest-preserved g c = (
  Appended-more g.K.Sink.wrote _ _ _ _ _ _ c.loop-rest.invariant.0 c.in_ok-count.ensures.appends,
  c.in_ok-count.ensures.uncounted ∙ c.loop-rest.invariant.1,
)
