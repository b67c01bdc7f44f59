use Rattle.kept_party.proofs.Kept.{answered_kept}
use Rattle.kept_party.proofs.laws.what_was_answered_is_kept.Goals as goal

pub returns : goal.returns
returns c mark texts answered last left lives marked lead = answered_kept mark marked texts answered last left lives lead
