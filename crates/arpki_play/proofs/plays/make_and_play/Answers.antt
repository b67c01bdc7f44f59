-- What is played is the script.
use Rattle.std.proofs.Common.{◌∙◌}
use Rattle.arpki_play.proofs.Played.{made-same}
use Rattle.arpki_play.proofs.plays.make_and_play.Goals as goal

pub returns-clause-told : goal.returns-clause-told
returns-clause-told g c =
    made-same _ c.args.domains.now c.deref.result.now c.play_quietly.result (c.deref.ensures.value ∙ c.in_ok-text.ensures) c.play_quietly.ensures.told
