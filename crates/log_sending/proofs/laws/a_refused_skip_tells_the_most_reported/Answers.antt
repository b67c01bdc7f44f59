use Rattle.log_sending.proofs.Reported.{most-is}
use Rattle.log_sending.proofs.laws.a_refused_skip_tells_the_most_reported.Goals as goal

pub returns : goal.returns
returns c = most-is
