use Rattle.log_core.proofs.Verified.{once}
use Rattle.log_core.proofs.laws.queued_endorsements_need_no_second_look.Goals as goal

pub returns : goal.returns
returns c = once
