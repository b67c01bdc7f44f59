use Rattle.ar_council.proofs.Seeing.{seen-exactly}
use Rattle.ar_council.proofs.laws.what_is_seen_is_old_or_new.Goals as goal

pub returns : goal.returns
returns c = seen-exactly
