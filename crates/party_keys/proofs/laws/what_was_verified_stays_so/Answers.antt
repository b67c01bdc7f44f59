use Rattle.party_keys.proofs.Growing.{all_grows, lasts}
use Rattle.party_keys.proofs.laws.what_was_verified_stays_so.Goals as goal

pub returns-clause-keys : goal.returns-clause-keys
returns-clause-keys c = all_grows

pub returns-clause-valid : goal.returns-clause-valid
returns-clause-valid c = λ keys announced party text signature e. lasts keys announced party text signature _ tt e

pub returns-clause-bad : goal.returns-clause-bad
returns-clause-bad c = λ keys announced party text signature k other e. lasts keys announced party text signature _ other e
