use Rattle.lm_ots.proofs.SigningLemmas.{candidate-signature_of}
use Rattle.lm_ots.proofs.laws.a_signature_leads_to_its_key.Goals as goal

pub returns : goal.returns
returns c = candidate-signature_of
