use Rattle.ar_base.proofs.Apart.{apart}
use Rattle.ar_base.proofs.laws.a_digest_is_of_one_string.Goals as goal

pub returns : goal.returns
returns c = apart
