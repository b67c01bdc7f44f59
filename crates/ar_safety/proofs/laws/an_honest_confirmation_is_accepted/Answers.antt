use Rattle.ar_safety.proofs.Rows.{row-absent, row-accepted}
use Rattle.ar_safety.proofs.laws.an_honest_confirmation_is_accepted.Goals as goal

pub returns : goal.returns
returns c = record { accepted = row-accepted; absent = row-absent }
