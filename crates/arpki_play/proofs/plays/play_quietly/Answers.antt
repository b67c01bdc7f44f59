-- What the sink took is all that is written of the run.
use Rattle.ar_io.specs.QuietSink.{Took}
use Rattle.arpki_play.proofs.Played.{quiet-sums}
use Rattle.arpki_play.proofs.plays.play_quietly.Goals as goal

pub returns-in-Ok-clause-told : goal.returns-in-Ok-clause-told
returns-in-Ok-clause-told g c =
    quiet-sums (λ _. 0) Took c.new-quiet.result c.play.new.sink _ c.args.domains.now c.args.text.now c.into_digest.result c.in-Ok.played c.sum_up.result c.new-quiet.ensures c.in-Ok.ensures c.into_digest.ensures c.sum_up.ensures.told
