use Rattle.arpki_party.proofs.FirstOwn.{first_said}
use Rattle.arpki_party.proofs.laws.a_party_begins_with_its_first_key.Goals as goal

pub returns : goal.returns
returns c = first_said
