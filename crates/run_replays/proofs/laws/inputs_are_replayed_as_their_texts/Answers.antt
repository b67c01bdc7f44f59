use Rattle.run_replays.proofs.Texts.{as-inputs, as-texts, whole-inputs}
use Rattle.run_replays.proofs.laws.inputs_are_replayed_as_their_texts.Goals as goal

pub returns : goal.returns
returns c = record { texts = as-texts; inputs = as-inputs; whole = whole-inputs }
